-- Where a type with no type inside ends, by what `token` found of it; and how the measure falls of a walk whose functions call each
-- other: unread bytes first, then how many types are left.
use Rattle.std.specs.Prelude.{◌≡◌, List, ℕ, ◌+◌, ◌-◌, ◌*◌, ◌≤◌, ◌<◌, length}
use Rattle.std.proofs.Common.{arith}
use Rattle.definitions.specs.SignatureToken.{encode}
use Rattle.definitions.specs.Places.{TypeAt, EndOfType}
use Rattle.theorems.specs.AtLaws.{at_room}
use Rattle.file_format.specs.declared.StructHandleIndex.{StructHandleIndex}
use Rattle.signature_token.specs.declared.Wrapper.{Wrapper}
use Rattle.signature_token.specs.declared.Token.{Token}
use Rattle.signature_token.specs.declared.Token.TheVariants.{Leaf, Wrapped, Struct, TypeParameter}
use Rattle.signature_token.specs.Token.{TokenAt, encode_pos}
use Rattle.signature_token.specs.TokenLaws.{leaf_long, leaf_at, wrapped_at, struct_at, parameter_at}

module _ {s : List ℕ} {at : ℕ} {r : Token} (w : TokenAt s at r) where
  pub leaf_end : {b : ℕ} → r ≡ Leaf b → EndOfType s at (at + 1)
  leaf_end e p = omega (arith, leaf_long (leaf_at w p e))

  pub struct_end : {k : StructHandleIndex} → r ≡ Struct k → EndOfType s at (at + 3)
  struct_end e p = omega (arith, (struct_at w p e).long)

  pub parameter_end : {i : ℕ} → r ≡ TypeParameter i → EndOfType s at (at + 3)
  parameter_end e p = omega (arith, (parameter_at w p e).long)

-- there is room for the whole type
pub type_room : {s : List ℕ} {at : ℕ} (p : TypeAt s at) → at + length (encode p.type) ≤ length s
type_room p = omega (arith, at_room p.stands, encode_pos p.type)

-- ── measures ──

-- a type's walk
abbrev pub type_measure : List ℕ → ℕ → ℕ
type_measure s at = 256 * (length s - at)

-- a list's walk: n types, at most 255
abbrev pub list_measure : List ℕ → ℕ → ℕ → ℕ
list_measure s at n = 256 * (length s - at) + n

module _ {s : List ℕ} {at : ℕ} {r : Token} (w : TokenAt s at r) (p : TypeAt s at) where
  pub inner_falls : {v : Wrapper} {x : ℕ} → r ≡ Wrapped v x → type_measure s x < type_measure s at
  inner_falls e = omega (arith, (wrapped_at w p e).place, type_room p, encode_pos p.type)
