-- What a push of a type's bytes promises, and how it comes of what is written: the bytes at the stack's end, and then their length. A
-- writer of another crate that is lent the free end of the area is composed with `seal` by `push_lent` and `push_lent_under`.
use Rattle.std.specs.Prelude.{◌≡◌, List, [], ◌∷◌, ℕ, ◌+◌, ◌-◌, ◌≤◌, ◌<◌, length, take, drop}
use Rattle.std.proofs.Common.{ap, sym, ◌∙◌, arith, length-drop, take-append-drop, length-take-le}
use borrow.Rule.Slice.PartMut.{put_mid}
use Rattle.status.specs.declared.StatusCode.TheVariants.{NO_ROOM}
use Rattle.definitions.specs.SignatureToken.{SignatureToken, encode, le16}
use Rattle.definitions.specs.Places.{At}
use Rattle.definitions.specs.Machine.{push}
use Rattle.type_stack.specs.Spliced.{spliced, over, spliced_more, spliced_stands, lent}
use Rattle.type_stack.specs.Held.{Stacked, part, entered}
use Rattle.type_stack.specs.Stepping.{StepsTo, push_fits, push_full}
use Rattle.type_stack.specs.Answers.{Stepped}
use Rattle.std.specs.Prelude.{Ok, Err}

-- the type of these bytes is pushed
pub record PushesTo (bs : List ℕ) (a : List ℕ) (w : ℕ) (b : List ℕ) (r : Stepped) : Type 0 where
  pub steps : (t : SignatureToken) → encode t ≡ bs → StepsTo (push t) a w b r

-- the bytes, and then their length, are an entry
pub sealed :
    (a : List ℕ) (w : ℕ) (bs : List ℕ) {n : ℕ} → n ≡ length bs → {b d : List ℕ} → w + (n + 2) ≤ length a → d ≡ spliced a w bs →
    b ≡ spliced d (w + n) (le16 n) → b ≡ entered a w bs
sealed a w bs {n} e {b} {d} f p q =
    q ∙ ap (λ (l : List ℕ). spliced l (w + n) (le16 n)) p ∙ ap (λ (m : ℕ). spliced (spliced a w bs) (w + m) (le16 m)) e
    ∙ spliced_more a w bs (le16 (length bs)) (omega arith)

module _ {a : List ℕ} {w : ℕ} (bs : List ℕ) {n : ℕ} (e : n ≡ length bs) where
  -- there is no room for bs and their length
  pub push_over : Stacked a w → length a - w < n + 2 → PushesTo bs a w a (Err NO_ROOM)
  push_over k f = record { steps = λ t i. push_full t (let z = ap length i in let l = k.holds.fits in omega arith) }

  -- an entry of bs is the push of their type
  pub push_entered : {b : List ℕ} {x : ℕ} → w + (n + 2) ≤ length a → x ≡ w + (n + 2) → b ≡ entered a w bs → PushesTo bs a w b (Ok x)
  push_entered {b} {x} f p q = record {
    steps = λ t i.
        let y : x ≡ w + (length (encode t) + 2) = let z = ap length i in omega arith in
        let d : b ≡ entered a w (encode t) = q ∙ ap (entered a w) (sym i) in
        rw (y, d) (push_fits t (let z = ap length i in omega arith));
  }

  pub push_sealed : {b d : List ℕ} {x : ℕ} → w + (n + 2) ≤ length a → d ≡ spliced a w bs → b ≡ spliced d (w + n) (le16 n) → x ≡ w + (n + 2) → PushesTo bs a w b (Ok x)
  push_sealed {b} {d} f p q i = push_entered f i (sealed a w bs e f p q)

  -- a writer was lent the free end, and wrote bs at its front
  pub push_lent :
      {b d : List ℕ} {x : ℕ} → w + (n + 2) ≤ length a → d ≡ over bs (take (length a - w) (drop w a)) →
      b ≡ spliced (put_mid w (length a - w) a d) (w + n) (le16 n) → x ≡ w + (n + 2) → PushesTo bs a w b (Ok x)
  push_lent f p = push_sealed f (lent a bs w p)

-- bs was written behind a first byte
module _ {a : List ℕ} {w : ℕ} (c : ℕ) (bs : List ℕ) {n : ℕ} (e : n ≡ length bs + 1) where
  pub push_under :
      {b d g : List ℕ} {x : ℕ} → w + (n + 2) ≤ length a → g ≡ spliced a w (c ∷ []) → d ≡ spliced g (w + 1) bs →
      b ≡ spliced d (w + n) (le16 n) → x ≡ w + (n + 2) → PushesTo (c ∷ bs) a w b (Ok x)
  push_under f p q = push_sealed (c ∷ bs) (omega arith) f (q ∙ ap (λ (l : List ℕ). spliced l (w + 1) bs) p ∙ spliced_more a w (c ∷ []) bs (omega arith))

  -- by a writer that was lent what is behind the first byte
  pub push_lent_under :
      {b d g : List ℕ} {x : ℕ} → w + (n + 2) ≤ length a → g ≡ spliced a w (c ∷ []) →
      d ≡ over bs (take (length g - (w + 1)) (drop (w + 1) g)) → b ≡ spliced (put_mid (w + 1) (length g - (w + 1)) g d) (w + n) (le16 n) →
      x ≡ w + (n + 2) → PushesTo (c ∷ bs) a w b (Ok x)
  push_lent_under {b} {d} {g} f p q = push_under f p (lent g bs (w + 1) q)

-- the type that stands at w, up to `to`, with another first byte: the other bytes are there already
pub push_retagged :
    {a : List ℕ} {w to : ℕ} (c : ℕ) {b d : List ℕ} {x : ℕ} → w < to → to + 2 ≤ length a → d ≡ spliced a w (c ∷ []) →
    b ≡ spliced d (w + (to - w)) (le16 (to - w)) → x ≡ w + (to - w + 2) → PushesTo (c ∷ part a (w + 1) to) a w b (Ok x)
push_retagged {a} {w} {to} c k f p =
    let bs = part a (w + 1) to in
    let l : length bs ≡ to - (w + 1) = length-take-le (to - (w + 1)) (drop (w + 1) a) (omega (arith, length-drop (w + 1) a)) in
    let h : At a (w + 1) bs = record { rest = drop (to - (w + 1)) (drop (w + 1) a); here = sym (take-append-drop (to - (w + 1)) (drop (w + 1) a)) } in
    push_sealed (c ∷ bs) (omega arith) (omega arith) (p ∙ spliced_stands a w (c ∷ []) bs h)

-- what a push answers that finds no room, and one that wrote an entry
pub ruleset pushing = (push_over, push_sealed, push_entered, push_under, push_retagged)
