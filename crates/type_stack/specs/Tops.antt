-- What the looks at the top of the stack answer: the top entry and the top two, for every stack that the area holds.
use Rattle.std.proofs.Math.Path.{◌≡◌, refl}
use Rattle.std.proofs.Common.{sym, ap, subst, ◌∙◌, arith}
use mathlib.Core.List.{List, [], ◌∷◌, ◌++◌}
use Rattle.std.specs.Prelude.{ℕ, ◌+◌, ◌-◌, ◌*◌, ◌≤◌, length, take, get_or}
use Rattle.definitions.specs.SignatureToken.{SignatureToken, encode}
use Rattle.definitions.specs.Machine.{Stack, weight}
use Rattle.type_stack.specs.Held.{Holds, Stacked, Here, entry, stack_bytes, popped}
use Rattle.status.specs.declared.StatusCode.{StatusCode}
use Rattle.type_stack.specs.declared.Entry.{Entry}
use Rattle.type_stack.specs.Answers.{Top, TopTwo, entry_at, same_ok, same_err, start_is, len_is}
use Rattle.std.specs.Prelude.{Ok, Err}
use Rattle.status.specs.declared.StatusCode.TheVariants.{EMPTY_STACK}

-- an entry starts where the stack below it ends
unfoldable pub top_of : Stack → Top
top_of [] = Err EMPTY_STACK
top_of (t ∷ s) = Ok (entry_at (weight s) (length (encode t)))

unfoldable pub top_two_of : Stack → TopTwo
top_two_of [] = Err EMPTY_STACK
top_two_of (t ∷ []) = Err EMPTY_STACK
top_two_of (t ∷ u ∷ s) = Ok (entry_at (weight (u ∷ s)) (length (encode t)), entry_at (weight s) (length (encode u)))

pub record TopOf (a : List ℕ) (w : ℕ) (r : Top) : Type 0 where
  pub is : (s : Stack) → Holds a w s → r ≡ top_of s

pub record TopTwoOf (a : List ℕ) (w : ℕ) (r : TopTwo) : Type 0 where
  pub is : (s : Stack) → Holds a w s → r ≡ top_two_of s

-- what is known of the top of a stack: its type, and the stack below
pub record Topped (a : List ℕ) (w x l : ℕ) : Type 0 where
  pub type : SignatureToken
  pub here : Here a x l type
  pub under : Stacked a x
  pub heavy : w ≡ x + (l + 2)
  pub bytes : take w a ≡ take x a ++ entry (encode type)

-- ── the top ──

-- a stack that weighs something has a top, whose length stands in the last two bytes
pub top_number : {a : List ℕ} {w : ℕ} → Stacked a w → (w ≡ 0 → ⊥) → (2 ≤ w) × (get_or a (w - 2) 0 + get_or a (w - 1) 0 * 256 ≤ w - 2)
unfolding weight
top_number {a} {w} k n = go k.stack k.holds
  where
    go : (s : Stack) → Holds a w s → (2 ≤ w) × (get_or a (w - 2) 0 + get_or a (w - 1) 0 * 256 ≤ w - 2)
    go [] h = absurd (n h.weighs)
    go (t ∷ s) h = let p = popped h in (omega (arith, p.heavy), omega (arith, p.heavy, p.number))

pub top_none : {a : List ℕ} {w : ℕ} → w ≡ 0 → TopOf a w (Err EMPTY_STACK)
unfolding top_of
top_none {a} {w} e = record { is = go }
  where
    go : (s : Stack) → Holds a w s → Err EMPTY_STACK ≡ top_of s
    go [] h = refl
    go (t ∷ s) h = absurd (omega (arith, (popped h).heavy))

pub top_some : {a : List ℕ} {w n : ℕ} → (w ≡ 0 → ⊥) → n ≡ get_or a (w - 2) 0 + get_or a (w - 1) 0 * 256 → TopOf a w (Ok (entry_at (w - 2 - n) n))
unfolding weight top_of
top_some {a} {w} {n} k e = record { is = go }
  where
    go : (s : Stack) → Holds a w s → Ok (entry_at (w - 2 - n) n) ≡ top_of s
    go [] h = absurd (k h.weighs)
    go (t ∷ s) h =
        let p = popped h in
        let x : w - 2 - n ≡ weight s = omega (arith, p.heavy, p.number) in
        let y : n ≡ length (encode t) = omega (arith, p.number) in
        rw (x, y)

-- the top of a stack that is known
top_known : {a : List ℕ} {w x l : ℕ} (t : SignatureToken) (s : Stack) → length a ≤ 65535 → Holds a w (t ∷ s) → x ≡ weight s → l ≡ length (encode t) → Topped a w x l
unfolding stack_bytes
top_known t s k h e f =
    let o = popped h in
    record {
      type = t;
      here = record { at = rw e o.here; long = f };
      under = record { stack = s; holds = rw e o.below; small = k };
      heavy = omega (arith, o.heavy);
      bytes = h.bytes ∙ rw (e, o.below.bytes);
    }

-- a stack with a top has one entry at least
top_is : {a : List ℕ} {w : ℕ} {e : Entry} → TopOf a w (Ok e) → (s : Stack) → Holds a w s → (t : SignatureToken) × (u : Stack) × (s ≡ t ∷ u) × (e ≡ entry_at (weight u) (length (encode t)))
unfolding top_of
top_is p [] h = let z : ◌≡◌ {A = ℕ} 0 1 = cc (p.is [] h) in absurd (omega arith)
top_is p (t ∷ u) h = (t, u, refl, same_ok (p.is (t ∷ u) h))

pub topped : {a : List ℕ} {w : ℕ} {e : Entry} → Stacked a w → TopOf a w (Ok e) → Topped a w e.start e.len
topped k p =
    let o = top_is p k.stack k.holds in
    top_known o.0 o.1 k.small (rw o.2 at k.holds) (start_is o.3) (len_is o.3)

pub top_under : {a : List ℕ} {w : ℕ} {e : Entry} → Stacked a w → TopOf a w (Ok e) → Stacked a e.start
top_under k p = (topped k p).under

-- ── the top two ──

pub two_no_first : {a : List ℕ} {w : ℕ} {v : StatusCode} → TopOf a w (Err v) → TopTwoOf a w (Err v)
unfolding top_of top_two_of
two_no_first {a} {w} {v} p = record { is = go }
  where
    go : (s : Stack) → Holds a w s → Err v ≡ top_two_of s
    go [] h = ap Err (same_err (p.is [] h))
    go (t ∷ []) h = let z : ◌≡◌ {A = ℕ} 0 1 = cc (p.is (t ∷ []) h) in absurd (omega arith)
    go (t ∷ u ∷ s) h = let z : ◌≡◌ {A = ℕ} 0 1 = cc (p.is (t ∷ u ∷ s) h) in absurd (omega arith)

module _ {a : List ℕ} {w : ℕ} {x : Entry} (p : TopOf a w (Ok x)) where
  -- the stack below the top
  below_is : {s : Stack} {t : SignatureToken} → x ≡ entry_at (weight s) (length (encode t)) → Holds a w (t ∷ s) → Holds a x.start s
  below_is n h = rw (start_is n) (popped h).below

  pub two_no_second : {v : StatusCode} → TopOf a x.start (Err v) → TopTwoOf a w (Err v)
  unfolding top_of top_two_of
  two_no_second {v} q = record { is = go }
    where
      go : (s : Stack) → Holds a w s → Err v ≡ top_two_of s
      go [] h = let z : ◌≡◌ {A = ℕ} 0 1 = cc (p.is [] h) in absurd (omega arith)
      go (t ∷ []) h = ap Err (same_err (q.is [] (below_is (same_ok (p.is (t ∷ []) h)) h)))
      go (t ∷ u ∷ s) h = let z : ◌≡◌ {A = ℕ} 0 1 = cc (q.is (u ∷ s) (below_is (same_ok (p.is (t ∷ u ∷ s) h)) h)) in absurd (omega arith)

  pub two_both : {y : Entry} → TopOf a x.start (Ok y) → TopTwoOf a w (Ok (x, y))
  unfolding top_of top_two_of
  two_both {y} q = record { is = go }
    where
      go : (s : Stack) → Holds a w s → Ok (x, y) ≡ top_two_of s
      go [] h = let z : ◌≡◌ {A = ℕ} 0 1 = cc (p.is [] h) in absurd (omega arith)
      go (t ∷ []) h = let z : ◌≡◌ {A = ℕ} 0 1 = cc (q.is [] (below_is (same_ok (p.is (t ∷ []) h)) h)) in absurd (omega arith)
      go (t ∷ u ∷ s) h =
          let n = same_ok (p.is (t ∷ u ∷ s) h) in
          rw (n, same_ok (q.is (u ∷ s) (below_is n h)))

-- a stack with a top two has two entries at least
two_is :
    {a : List ℕ} {w : ℕ} {x y : Entry} → TopTwoOf a w (Ok (x, y)) → (s : Stack) → Holds a w s →
    (t u : SignatureToken) × (r : Stack) × (s ≡ t ∷ u ∷ r) × (x ≡ entry_at (weight (u ∷ r)) (length (encode t))) × (y ≡ entry_at (weight r) (length (encode u)))
unfolding top_two_of
two_is p [] h = let z : ◌≡◌ {A = ℕ} 0 1 = cc (p.is [] h) in absurd (omega arith)
two_is p (t ∷ []) h = let z : ◌≡◌ {A = ℕ} 0 1 = cc (p.is (t ∷ []) h) in absurd (omega arith)
two_is p (t ∷ u ∷ r) h =
    let e = same_ok (p.is (t ∷ u ∷ r) h) in
    (t, u, r, refl, ap (λ (q : Entry × Entry). q.0) e, ap (λ (q : Entry × Entry). q.1) e)

pub topped_two : {a : List ℕ} {w : ℕ} {x y : Entry} → Stacked a w → TopTwoOf a w (Ok (x, y)) → Topped a w x.start x.len × Topped a x.start y.start y.len
topped_two {a} k p =
    let o = two_is p k.stack k.holds in
    let h = rw o.3 at k.holds in (
      top_known o.0 (o.1 ∷ o.2) k.small h (start_is o.4) (len_is o.4),
      top_known o.1 o.2 k.small (subst (λ (n : ℕ). Holds a n (o.1 ∷ o.2)) (sym (start_is o.4)) (popped h).below) (start_is o.5) (len_is o.5),
    )

-- what `pop` answers, and what an exit of `pop_two` follows from
pub ruleset top_laws = (top_none, top_some, top_number)

pub ruleset pop_laws = (two_no_second, two_no_first, two_both, top_under)
