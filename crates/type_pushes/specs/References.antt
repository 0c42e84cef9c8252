-- The first byte of a reference.
use Rattle.std.specs.Prelude.{◌≡◌, ◌∷◌, Bool, true, false, ℕ}
use Rattle.std.proofs.Math.Path.{refl}
use Rattle.definitions.specs.SignatureToken.{SignatureToken, encode}
use Rattle.definitions.specs.Substitution.{reference_to}

pub record ReferenceCommand (m : Bool) (r : ℕ) : Type 0 where
  pub is : (t : SignatureToken) → encode (reference_to m t) ≡ r ∷ encode t

module _ {m : Bool} where
  pub mutable_command : m ≡ true → ReferenceCommand m 0x0B
  unfolding encode reference_to
  mutable_command e = rw e (record { is = λ t. refl })

  pub immutable_command : m ≡ false → ReferenceCommand m 0x0A
  unfolding encode reference_to
  immutable_command e = rw e (record { is = λ t. refl })

-- the two
pub ruleset commands = (mutable_command, immutable_command)
