-- Two types are compared by their bytes.
use Rattle.std.specs.Prelude.{◌≡◌, refl, List, ◌++◌, Bool, true, false, ℕ, ◌+◌, ◌-◌, ◌≤◌, length, take, drop, eqb}
use Rattle.std.specs.List.{starts_with}
use Rattle.std.proofs.Common.{ap, sym, ◌∙◌, arith}
use Rattle.std.proofs.lemmas.Bool.Decides.{Decides-eqb}
use Rattle.std.proofs.lemmas.List.{take_rest}
use Rattle.std.proofs.lemmas.Slice.Eq.{starts_is}
use Rattle.std.proofs.Math.Decide.{ℕ_discrete}
use Rattle.definitions.specs.SignatureToken.{SignatureToken, SignatureToken-discrete, encode, same, decided}
use Rattle.definitions.specs.Places.{At, TypeAt}
use Rattle.theorems.specs.AtLaws.{at_room, at_part}
use Rattle.theorems.specs.Bytes.{one_type}
use Rattle.signature_token.specs.Token.{encode_pos}

-- ── the words ──

-- some type of l bytes stands at x. It is said of an entry of the area: `Entry` is numbers alone, since the next step may write the area, and a
-- struct of bytes, place and length would be a literal of four lines at callers that have the three at hand
pub record Spans (s : List ℕ) (x l : ℕ) : Type 0 where
  pub type : SignatureToken
  pub stands : At s x (encode type)
  pub long : l ≡ length (encode type)

-- such a type stands there
abbrev pub spanned : {s : List ℕ} {x l : ℕ} → Spans s x l → TypeAt s x
spanned p = record { type = p.type; stands = p.stands }

-- r says whether the type of l bytes at x of a is the type at y of b
abbrev pub SameAt : List ℕ → ℕ → ℕ → List ℕ → ℕ → Bool → Type 0
SameAt a x l b y r = (p : Spans a x l) (q : TypeAt b y) → r ≡ same p.type q.type

-- ── `same` and equality ──

decided_yes : {P : Type 0} (d : Dec P) → P → decided d ≡ true
decided_yes (yes p) x = refl
decided_yes (no n) x = absurd (n x)

decided_no : {P : Type 0} (d : Dec P) → (P → ⊥) → decided d ≡ false
decided_no (yes p) x = absurd (x p)
decided_no (no n) x = refl

decided_is : {P : Type 0} (d : Dec P) → decided d ≡ true → P
decided_is (yes p) e = p
decided_is (no n) e = let z : ◌≡◌ {A = ℕ} 0 1 = cc in absurd (omega arith)

pub same_yes : (t u : SignatureToken) → t ≡ u → same t u ≡ true
unfolding same
same_yes t u e = decided_yes (SignatureToken-discrete ℕ_discrete t u) e

pub same_no : (t u : SignatureToken) → (t ≡ u → ⊥) → same t u ≡ false
unfolding same
same_no t u e = decided_no (SignatureToken-discrete ℕ_discrete t u) e

pub same_is : (t u : SignatureToken) → same t u ≡ true → t ≡ u
unfolding same
same_is t u e = decided_is (SignatureToken-discrete ℕ_discrete t u) e

-- two comparisons, of which each holds where the other does
pub same_both : (t u v w : SignatureToken) → (t ≡ u → v ≡ w) → (v ≡ w → t ≡ u) → same v w ≡ same t u
same_both t u v w f g = go (same t u) refl
  where
    go : (b : Bool) → same t u ≡ b → same v w ≡ b
    go true e = same_yes v w (f (same_is t u e))
    go false e = same_no v w (λ i. let z : true ≡ false = sym (same_yes t u (g i)) ∙ e in let n : ◌≡◌ {A = ℕ} 0 1 = cc in omega arith)

-- ── the bytes ──

pub span_within : {s : List ℕ} {x l : ℕ} → Spans s x l → x + l ≤ length s
span_within p = let e = p.long in omega (arith, at_room p.stands, encode_pos p.type)

-- the type that spans that part is the part
pub spanned_part : {a : List ℕ} {x l : ℕ} (p : Spans a x l) → take (x + l - x) (drop x a) ≡ encode p.type
spanned_part {a} {x} {l} p =
    let e : x + l - x ≡ length (encode p.type) = let z = p.long in omega arith in
    ap (λ (n : ℕ). take n (drop x a)) e ∙ at_part (encode p.type) p.stands

module _ {a : List ℕ} {x l : ℕ} {b : List ℕ} {y : ℕ} where
  -- `&b[y..]` starts with `&a[x..x + l]` where the two types are one
  pub same_starts :
      {r : Bool} → r ≡ starts_with eqb (take (length b - y) (drop y b)) (take (x + l - x) (drop x a)) → SameAt a x l b y r
  same_starts {r} e p q =
      let k = starts_is Decides-eqb (drop y b) (encode p.type) r (rw (take_rest b y, spanned_part p) at e) in
      go r k.0 k.1
    where
      go : (r : Bool) → (r ≡ true → drop y b ≡ encode p.type ++ drop (length (encode p.type)) (drop y b)) →
          ((rest : List ℕ) → drop y b ≡ encode p.type ++ rest → r ≡ true) → r ≡ same p.type q.type
      go true f g = sym (same_yes p.type q.type (one_type p.type q.type (record { rest = drop (length (encode p.type)) (drop y b); here = f refl }) q.stands))
      go false f g =
          sym (same_no p.type q.type (λ i.
          let z : false ≡ true = g q.stands.rest (q.stands.here ∙ ap (λ (t : SignatureToken). encode t ++ q.stands.rest) (sym i)) in
          let n : ◌≡◌ {A = ℕ} 0 1 = cc in omega arith))
