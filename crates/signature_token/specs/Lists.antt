-- A walk along the types of a list: what is left of them at each turn.
use Rattle.std.specs.Prelude.{◌≡◌, refl, List, ℕ, ◌+◌, ◌-◌, ◌≤◌, ◌<◌, length}
use Rattle.std.proofs.Common.{ap, ◌∙◌, arith}
use Rattle.definitions.specs.SignatureToken.{SignatureTokens, count, encode, encode_all}
use Rattle.definitions.specs.Places.{At, TypeAt, TypesAt, EndOfType}
use Rattle.signature_token.specs.TokenLaws.{IsMore, more_is, none_is}

-- what is left of the types ts at `at`: k types that stand at p, and end where those do
pub record Left (s : List ℕ) (at : ℕ) (ts : SignatureTokens) (p k : ℕ) : Type 0 where
  pub others : SignatureTokens
  pub counted : count others ≡ k
  pub stands : At s p (encode_all others)
  pub past : at ≤ p
  pub ends : p + length (encode_all others) ≡ at + length (encode_all ts)

module _ {s : List ℕ} {at : ℕ} {ts : SignatureTokens} {p k : ℕ} (l : 0 < k) (r : Left s at ts p k) where
  -- the first of them
  abbrev pub first_left : IsMore s p k r.others
  first_left = more_is r.others r.counted r.stands (omega arith)

  pub type_left : TypeAt s p
  type_left = record { type = first_left.first; stands = first_left.stands }

  abbrev pub left_after : {e j : ℕ} → EndOfType s p e → k - 1 ≡ j → Left s at ts e j
  left_after {e} end y =
      let z : e ≡ p + length (encode first_left.first) = end (record { type = first_left.first; stands = first_left.stands }) in
      let x = first_left.long in
      record {
        others = first_left.others;
        counted = first_left.counted ∙ y;
        stands = rw z first_left.after;
        past = omega (arith, r.past);
        ends = omega (arith, r.ends);
      }

pub left_done : {s : List ℕ} {at : ℕ} {ts : SignatureTokens} {p k : ℕ} → k ≡ 0 → Left s at ts p k → p ≡ at + length (encode_all ts)
unfolding encode
left_done l r =
    let z : length (encode_all r.others) ≡ 0 = ap (λ (us : SignatureTokens). length (encode_all us)) (none_is r.others (r.counted ∙ l)) in
    omega (arith, r.ends)

-- of the n types ts at `at`, i are passed and the others stand at p
abbrev pub Rest : List ℕ → ℕ → ℕ → SignatureTokens → ℕ → ℕ → Type 0
Rest s at n ts p i = Left s at ts p (n - i)

-- whatever types stand at `at`, none is passed
abbrev pub along_start : {s : List ℕ} {at n : ℕ} (q : TypesAt s at n) → Rest s at n q.types at 0
along_start q = record { others = q.types; counted = q.counted ∙ omega arith; stands = q.stands; past = omega arith; ends = refl }

module _ {s : List ℕ} {at n p i : ℕ} (l : i < n) where
  -- the next of them
  abbrev pub next_is : {ts : SignatureTokens} (r : Rest s at n ts p i) → IsMore s p (n - i) r.others
  next_is r = first_left (omega arith) r

  pub next_type : {ts : SignatureTokens} → Rest s at n ts p i → TypeAt s p
  next_type r = type_left (omega arith) r

  abbrev pub rest_next : {ts : SignatureTokens} {e : ℕ} → Rest s at n ts p i → EndOfType s p e → Rest s at n ts e (i + 1)
  rest_next r end = left_after (omega arith) r end (omega arith)
