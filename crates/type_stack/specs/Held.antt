-- The stack as the lent area holds it: entries from the bottom up, each its type's bytes and then their length as a u16. What the top of
-- such a stack says of the area, and what an entry written behind it makes of the stack.
use Rattle.std.specs.Prelude.{◌≡◌, refl, List, [], ◌∷◌, ◌++◌, ℕ, ◌+◌, ◌-◌, ◌*◌, ◌≤◌, ◌<◌, length, take, drop, get_or}
use Rattle.std.proofs.Common.{ap, sym, ◌∙◌, append_assoc, arith, length-append, length-drop, take-append-drop, take_at, drop_at, length-take-le, get_or-take, get_or-append-add}
use Rattle.definitions.specs.SignatureToken.{SignatureToken, encode, le16}
use Rattle.definitions.specs.Places.{At}
use Rattle.definitions.specs.Machine.{Stack, weight}
use Rattle.type_stack.specs.Spliced.{spliced, take_spliced, length_spliced}

-- an entry's bytes
abbrev pub entry : List ℕ → List ℕ
entry bs = bs ++ le16 (length bs)

unfoldable pub stack_bytes : Stack → List ℕ
stack_bytes [] = []
stack_bytes (t ∷ s) = stack_bytes s ++ entry (encode t)

-- the first w bytes of the area hold the stack
pub record Holds (area : List ℕ) (w : ℕ) (s : Stack) : Type 0 where
  pub bytes : take w area ≡ stack_bytes s
  pub weighs : w ≡ weight s
  pub fits : w ≤ length area

-- what every step is lent: an area of at most 65,535 bytes whose first w hold some stack. Area and weight are two parameters, and no struct with
-- this as its ghost field: most steps write the area, and the prover does not cover a ghost field beside a `&mut`
pub record Stacked (area : List ℕ) (w : ℕ) : Type 0 where
  pub stack : Stack
  pub holds : Holds area w stack
  pub small : length area ≤ 65535

-- the type t stands at x and takes l bytes
pub record Here (a : List ℕ) (x l : ℕ) (t : SignatureToken) : Type 0 where
  pub at : At a x (encode t)
  pub long : l ≡ length (encode t)

-- from `from` to `to` is a part of a short list of bytes
pub record Part (s : List ℕ) (from to : ℕ) : Type 0 where
  pub order : from ≤ to
  pub within : to ≤ length s
  pub short : length s ≤ 65535

-- that part
abbrev pub part : List ℕ → ℕ → ℕ → List ℕ
part s from to = take (to - from) (drop from s)

-- the area with an entry of these bytes written at w
abbrev pub entered : List ℕ → ℕ → List ℕ → List ℕ
entered a w bs = spliced a w (entry bs)

-- ── laws ──

pub part_length : {s : List ℕ} {from to : ℕ} → Part s from to → length (part s from to) ≡ to - from
part_length {s} {from} {to} p = length-take-le (to - from) (drop from s) (omega (arith, length-drop from s))

pub length_entry : (bs : List ℕ) → length (entry bs) ≡ length bs + 2
length_entry bs = length-append bs (le16 (length bs))

pub length_stack : (s : Stack) → length (stack_bytes s) ≡ weight s
unfolding stack_bytes weight
length_stack [] = refl
length_stack (t ∷ s) = omega (arith, length-append (stack_bytes s) (entry (encode t)), length_stack s, length_entry (encode t))

pub held_none : (a : List ℕ) → Holds a 0 []
unfolding stack_bytes weight
held_none a = record { bytes = refl; weighs = refl; fits = omega arith }

-- an area with nothing on the stack
pub empty_stacked : (a : List ℕ) → length a ≤ 65535 → Stacked a 0
empty_stacked a k = record { stack = []; holds = held_none a; small = k }

-- ── pop ──

-- what the top entry says of the area
pub record Popped (a : List ℕ) (w : ℕ) (t : SignatureToken) (s : Stack) : Type 0 where
  pub below : Holds a (weight s) s
  pub here : At a (weight s) (encode t)
  pub heavy : w ≡ weight s + (length (encode t) + 2)
  pub number : get_or a (w - 2) 0 + get_or a (w - 1) 0 * 256 ≡ length (encode t)

module _ {a : List ℕ} {w : ℕ} {t : SignatureToken} {s : Stack} (h : Holds a w (t ∷ s)) where
  heavy : w ≡ weight s + (length (encode t) + 2)
  unfolding weight
  heavy = h.weighs

  whole : take w a ≡ stack_bytes s ++ entry (encode t)
  unfolding stack_bytes
  whole = h.bytes

  split : a ≡ stack_bytes s ++ (entry (encode t) ++ drop w a)
  split = sym (take-append-drop w a) ∙ ap (λ (l : List ℕ). l ++ drop w a) whole ∙ append_assoc (stack_bytes s) (entry (encode t)) (drop w a)

  from : drop (weight s) a ≡ encode t ++ (le16 (length (encode t)) ++ drop w a)
  from =
      ap (drop (weight s)) split ∙ drop_at (stack_bytes s) (entry (encode t) ++ drop w a) (weight s) (length_stack s)
      ∙ append_assoc (encode t) (le16 (length (encode t))) (drop w a)

  last : (i : ℕ) → i < 2 → get_or a (weight s + length (encode t) + i) 0 ≡ get_or (le16 (length (encode t))) i 0
  last i k =
      let e : length (stack_bytes s ++ encode t) ≡ weight s + length (encode t) = omega (arith, length-append (stack_bytes s) (encode t), length_stack s) in
      sym (get_or-take w a (weight s + length (encode t) + i) 0 (omega (arith, heavy)))
      ∙ rw (whole, ← append_assoc (stack_bytes s) (encode t) (le16 (length (encode t))), ← e) (get_or-append-add (stack_bytes s ++ encode t) (le16 (length (encode t))) i 0)

  pub popped : Popped a w t s
  popped =
      let e : w - 2 ≡ weight s + length (encode t) + 0 = omega (arith, heavy) in
      let f : w - 1 ≡ weight s + length (encode t) + 1 = omega (arith, heavy) in
      record {
        below = record {
          bytes = ap (take (weight s)) split ∙ take_at (stack_bytes s) (entry (encode t) ++ drop w a) (weight s) (length_stack s);
          weighs = refl;
          fits = let z = h.fits in omega (arith, heavy);
        };
        here = record { rest = le16 (length (encode t)) ++ drop w a; here = from };
        heavy = heavy;
        number = rw (e, f, last 0 (omega arith), last 1 (omega arith)) (omega arith);
      }

-- ── push ──

pub pushed :
    {a : List ℕ} {w : ℕ} {s : Stack} → Holds a w s → (t : SignatureToken) → w + (length (encode t) + 2) ≤ length a →
    Holds (entered a w (encode t)) (w + (length (encode t) + 2)) (t ∷ s)
unfolding stack_bytes weight
pushed {a} {w} h t f =
    let e = entry (encode t) in
    let l : length e ≡ length (encode t) + 2 = length_entry (encode t) in
    let g : w + length e ≤ length a = omega arith in
    record {
      bytes = ap (λ (n : ℕ). take (w + n) (spliced a w e)) (sym l) ∙ take_spliced a w e g ∙ ap (λ (l : List ℕ). l ++ e) h.bytes;
      weighs = ap (λ (n : ℕ). n + (length (encode t) + 2)) h.weighs;
      fits = omega (arith, length_spliced a w e g);
    }
