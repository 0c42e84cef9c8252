-- The bytes of a type where it stands.
use Rattle.std.specs.Prelude.{◌≡◌, List, ℕ, ◌-◌, ◌≤◌, length, take, drop}
use Rattle.std.proofs.Common.{ap, ◌∙◌, arith}
use Rattle.definitions.specs.SignatureToken.{encode}
use Rattle.definitions.specs.Places.{TypeAt, EndOfType}
use Rattle.theorems.specs.AtLaws.{at_part}
use Rattle.signature_token.specs.Ends.{type_room}

-- bs are the bytes of the type at `at` of s
abbrev pub Encoded : List ℕ → ℕ → List ℕ → Type 0
Encoded s at bs = (p : TypeAt s at) → bs ≡ encode p.type

module _ {s : List ℕ} {at z : ℕ} (f : EndOfType s at z) where
  -- they are those up to its end, which is there
  pub type_end : TypeAt s at → z ≤ length s
  type_end p = omega (arith, f p, type_room p)

  pub type_bytes : Encoded s at (take (z - at) (drop at s))
  type_bytes p =
      let e : z - at ≡ length (encode p.type) = omega (arith, f p) in
      ap (λ (n : ℕ). take n (drop at s)) e ∙ at_part (encode p.type) p.stands
