-- A struct with its arguments, as `materialize_type` makes it: the command with its operands, and then the arguments as they stand.
use Rattle.std.specs.Prelude.{◌≡◌, List, [], ◌∷◌, ℕ, zero, suc, ◌+◌, ◌/◌, ◌%◌, ◌<◌, length}
use Rattle.std.specs.Coded.{Coded-set, coded_ℕ, Π_prop}
use Rattle.definitions.specs.SignatureToken.{SignatureToken, SignatureTokens, encode, encode_all}
use Rattle.definitions.specs.Substitution.{materialize_type}
use Rattle.definitions.specs.Places.{TypesAt, EndOfTypes}
use Rattle.theorems.specs.Bytes.{list_of}

-- the command of a struct with n arguments, and its operands
unfoldable pub command_bytes : ℕ → ℕ → List ℕ
command_bytes h zero = 0x08 ∷ h % 256 ∷ h / 256 ∷ 0 ∷ []
command_bytes h (suc n) = 0x09 ∷ h % 256 ∷ h / 256 ∷ suc n ∷ []

-- how many of them count
unfoldable pub command_length : ℕ → ℕ
command_length zero = 3
command_length (suc n) = 4

-- b is the command of a struct with n arguments, and its operands
pub record IsCommand (h n : ℕ) (b : List ℕ) : Type 0 where
  pub is : b ≡ command_bytes h n

-- and k is how many of them count
pub record IsLength (n k : ℕ) : Type 0 where
  pub is : k ≡ command_length n

-- the struct with these arguments
abbrev pub materialized : ℕ → SignatureTokens → SignatureToken
materialized h ts = materialize_type h (list_of ts)

-- n types stand from `first` to `end`, not more than a struct has
pub record ArgumentList (args : List ℕ) (first n end : ℕ) : Type 0 where
  pub types : TypesAt args first n
  pub ends : end ≡ first + length (encode_all types.types)
  pub few : n < 256

-- r is the size of the struct with these arguments
pub record MaterializedSize (first n end r : ℕ) : Type 0 where
  pub is : (h : ℕ) (args : List ℕ) (l : ArgumentList args first n end) → r ≡ length (encode (materialized h l.types.types))

-- a number says in one way that it is the end
pub EndOfTypes-prop : (s : List ℕ) (at n r : ℕ) → IsProp (EndOfTypes s at n r)
EndOfTypes-prop s at n r = Π_prop (λ p. Coded-set coded_ℕ r (at + length (encode_all p.types)))
