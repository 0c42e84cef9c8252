-- A type taken apart at its first command, and what stands below it: the words and the laws of every walk over a type's bytes.
use Rattle.std.specs.Prelude.{⊤, ◌≡◌, List, [], ◌∷◌, ℕ, ◌+◌, ◌*◌, ◌/◌, ◌%◌, ◌≤◌, ◌<◌, length, get_or}
use Rattle.std.proofs.Math.Path.{refl}
use Rattle.std.proofs.Common.{◌∙◌}
use native.Mathlib.Omega.{arith}
use Rattle.definitions.specs.SignatureToken.{SignatureToken, Bool', U8, U64, U128, Address, Signer, Vector as VectorOf, Struct as StructOf, StructInstantiation as InstantiationOf, Reference as ReferenceOf, MutableReference as MutableReferenceOf, TypeParameter as ParameterOf, count, encode}
use Rattle.definitions.specs.Places.{At, TypeAt}
use Rattle.theorems.specs.AtLaws.{at_byte, at_next, at_room}
use Rattle.theorems.specs.Bytes.{le16_back}
use Rattle.file_format.specs.declared.StructHandleIndex.{StructHandleIndex}
use Rattle.signature_token.specs.declared.Shape.{Shape}
use Rattle.signature_token.specs.declared.Shape.TheVariants as shape
use Rattle.signature_token.specs.declared.Wrapper.{Wrapper}
use Rattle.signature_token.specs.declared.Wrapper.TheVariants as wrapper
use Rattle.signature_token.specs.declared.Token.{Token}
use Rattle.signature_token.specs.declared.Token.TheVariants.{Leaf, Wrapped, Struct, StructInstantiation, TypeParameter}

-- ── the words ──

abbrev pub shape_of : ℕ → Shape
shape_of command =
    get_or
    (shape.Leaf ∷ shape.Leaf ∷ shape.Leaf ∷ shape.Leaf ∷ shape.Leaf ∷ shape.Leaf ∷ shape.Leaf ∷ shape.Vector ∷ shape.Struct ∷ shape.StructInstantiation ∷ shape.Reference ∷ shape.MutableReference ∷ shape.TypeParameter ∷ [])
    command
    shape.Leaf

abbrev pub handle : ℕ → StructHandleIndex
handle h = record { 0 = h }

-- a type that stands at `at`, taken apart
unfoldable pub token_of : SignatureToken → ℕ → Token
token_of Bool' at = Leaf 0x01
token_of U8 at = Leaf 0x02
token_of U64 at = Leaf 0x03
token_of U128 at = Leaf 0x04
token_of Address at = Leaf 0x05
token_of Signer at = Leaf 0x06
token_of (VectorOf t) at = Wrapped wrapper.Vector (at + 1)
token_of (StructOf h) at = Struct (handle h)
token_of (InstantiationOf h ts) at = StructInstantiation (handle h) (count ts) (at + 4)
token_of (ReferenceOf t) at = Wrapped wrapper.Reference (at + 1)
token_of (MutableReferenceOf t) at = Wrapped wrapper.MutableReference (at + 1)
token_of (ParameterOf i) at = TypeParameter i

-- r is the type at `at`, taken apart
abbrev pub TokenAt : List ℕ → ℕ → Token → Type 0
TokenAt s at r = (p : TypeAt s at) → r ≡ token_of p.type at

-- a count of arguments is a byte
abbrev pub HasFew : Token → Type 0
HasFew (StructInstantiation h n x) = n < 256
HasFew (Leaf b) = ⊤
HasFew (Wrapped w x) = ⊤
HasFew (Struct h) = ⊤
HasFew (TypeParameter i) = ⊤

abbrev pub wrapped_by : Wrapper → SignatureToken → SignatureToken
wrapped_by wrapper.Vector t = VectorOf t
wrapped_by wrapper.Reference t = ReferenceOf t
wrapped_by wrapper.MutableReference t = MutableReferenceOf t

-- ── what the bytes tell ──

-- a type taken apart, by its command's shape, its command, the u16 after it and the byte after that
abbrev pub token_by : Shape → ℕ → ℕ → ℕ → ℕ → Token
token_by shape.Leaf command index n at = Leaf command
token_by shape.Vector command index n at = Wrapped wrapper.Vector (at + 1)
token_by shape.Struct command index n at = Struct (handle index)
token_by shape.StructInstantiation command index n at = StructInstantiation (handle index) n (at + 4)
token_by shape.Reference command index n at = Wrapped wrapper.Reference (at + 1)
token_by shape.MutableReference command index n at = Wrapped wrapper.MutableReference (at + 1)
token_by shape.TypeParameter command index n at = TypeParameter index

-- how many bytes a type of that shape has at least
abbrev pub least_by : Shape → ℕ
least_by shape.Leaf = 1
least_by shape.Vector = 2
least_by shape.Struct = 3
least_by shape.StructInstantiation = 4
least_by shape.Reference = 2
least_by shape.MutableReference = 2
least_by shape.TypeParameter = 3

pub record SeenBy (command index n room at : ℕ) (t : SignatureToken) : Type 0 where
  pub token : token_of t at ≡ token_by (shape_of command) command index n at
  pub fits : at + least_by (shape_of command) ≤ room

-- what the bytes at `at` tell of the type t
abbrev pub Seen : List ℕ → ℕ → SignatureToken → Type 0
Seen s at t = SeenBy (get_or s at 0) (get_or s (at + 1) 0 + 256 * get_or s (at + 1 + 1) 0) (get_or s (at + 3) 0) (length s) at t

-- no type is empty
pub encode_pos : (t : SignatureToken) → 0 < length (encode t)
unfolding encode
encode_pos Bool' = omega arith
encode_pos U8 = omega arith
encode_pos U64 = omega arith
encode_pos U128 = omega arith
encode_pos Address = omega arith
encode_pos Signer = omega arith
encode_pos (VectorOf t) = omega arith
encode_pos (StructOf h) = omega arith
encode_pos (InstantiationOf h ts) = omega arith
encode_pos (ReferenceOf t) = omega arith
encode_pos (MutableReferenceOf t) = omega arith
encode_pos (ParameterOf i) = omega arith

module _ {s : List ℕ} {at : ℕ} where
  leaf_seen : (t : SignatureToken) (b : ℕ) → At s at (b ∷ []) → token_of t at ≡ Leaf b → shape_of b ≡ shape.Leaf → Seen s at t
  leaf_seen t b h e k = rw (at_byte h) (record { token = e ∙ rw k; fits = rw k (omega (arith, at_room h)) })

  -- a wrapper's command, and a type
  wrapped_seen : (t u : SignatureToken) (b : ℕ) → At s at (b ∷ encode u) → token_of t at ≡ token_by (shape_of b) b 0 0 at → least_by (shape_of b) ≡ 2 →
      ((i n : ℕ) → token_by (shape_of b) b 0 0 at ≡ token_by (shape_of b) b i n at) → Seen s at t
  wrapped_seen t u b h e k f = rw (at_byte h) (record { token = e ∙ f _ _; fits = rw k (omega (arith, at_room h, encode_pos u)) })

  -- a command and a u16
  index_seen : (t : SignatureToken) (b i : ℕ) → At s at (b ∷ i % 256 ∷ i / 256 ∷ []) → ((n : ℕ) → token_of t at ≡ token_by (shape_of b) b i n at) →
      least_by (shape_of b) ≡ 3 → Seen s at t
  index_seen t b i h e k =
      rw (at_byte h, at_byte (at_next h), at_byte (at_next (at_next h)), le16_back i) (record { token = e _; fits = rw k (omega (arith, at_room h)) })

  pub seen : (t : SignatureToken) → At s at (encode t) → Seen s at t
  unfolding encode token_of
  seen Bool' h = leaf_seen Bool' 0x01 h refl refl
  seen U8 h = leaf_seen U8 0x02 h refl refl
  seen U64 h = leaf_seen U64 0x03 h refl refl
  seen U128 h = leaf_seen U128 0x04 h refl refl
  seen Address h = leaf_seen Address 0x05 h refl refl
  seen Signer h = leaf_seen Signer 0x06 h refl refl
  seen (VectorOf t) h = wrapped_seen (VectorOf t) t 0x07 h refl refl (λ i n. refl)
  seen (StructOf i) h = index_seen (StructOf i) 0x08 i h (λ n. refl) refl
  seen (InstantiationOf i ts) h =
      let k = at_next h in
      let c = at_next (at_next k) in
      let z : at + 1 + 1 + 1 ≡ at + 3 = omega arith in
      rw (at_byte h, at_byte k, at_byte (at_next k), le16_back i, ← z, at_byte c) (record { token = refl; fits = omega (arith, at_room h) })
  seen (ReferenceOf t) h = wrapped_seen (ReferenceOf t) t 0x0A h refl refl (λ i n. refl)
  seen (MutableReferenceOf t) h = wrapped_seen (MutableReferenceOf t) t 0x0B h refl refl (λ i n. refl)
  seen (ParameterOf i) h = index_seen (ParameterOf i) 0x0C i h (λ n. refl) refl

-- the same of a type that stands there
module _ {s : List ℕ} {at : ℕ} (p : TypeAt s at) where
  pub token_by_law :
      token_of p.type at
      ≡ token_by (shape_of (get_or s at 0)) (get_or s at 0) (get_or s (at + 1) 0 + 256 * get_or s (at + 1 + 1) 0) (get_or s (at + 3) 0) at
  token_by_law = (seen p.type p.stands).token

  pub room_by : at + least_by (shape_of (get_or s at 0)) ≤ length s
  room_by = (seen p.type p.stands).fits

-- a type has a first byte
pub at_some : {s : List ℕ} {at : ℕ} (p : TypeAt s at) → at < length s
at_some p = omega (arith, at_room p.stands, encode_pos p.type)
