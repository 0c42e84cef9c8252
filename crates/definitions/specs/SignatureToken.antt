-- `SignatureToken` of file_format.rs, and document 01's section "Type": its bytes and how deep it nests.
use Rattle.std.specs.Prelude.{Bool, true, false, List, [], ◌∷◌, ◌++◌, ℕ, suc, ◌/◌, ◌%◌, max}
use Rattle.std.proofs.Math.Decide.{ℕ_discrete}

infixr 50 ◌∷ᵗ◌
mutual
  -- `Bool'` is the Rust's Bool; the library has a type of that name
  pub data SignatureToken : Type 0 where
    Bool' U8 U64 U128 Address Signer : SignatureToken
    Vector : SignatureToken → SignatureToken
    Struct : ℕ → SignatureToken
    StructInstantiation : ℕ → SignatureTokens → SignatureToken
    Reference : SignatureToken → SignatureToken
    MutableReference : SignatureToken → SignatureToken
    TypeParameter : ℕ → SignatureToken
    deriving Discrete as SignatureToken-discrete

  -- the type arguments of a struct: a list of its own, since a type here does not recur through `List`
  pub data SignatureTokens : Type 0 where
    []ᵗ : SignatureTokens
    ◌∷ᵗ◌ : SignatureToken → SignatureTokens → SignatureTokens

-- `Signature` of file_format.rs
abbrev pub Signature : Type 0
Signature = List SignatureToken

-- a signature as type arguments
unfoldable pub arguments : Signature → SignatureTokens
arguments [] = []ᵗ
arguments (t ∷ ts) = t ∷ᵗ arguments ts

-- how many type arguments
unfoldable pub count : SignatureTokens → ℕ
count []ᵗ = 0
count (t ∷ᵗ ts) = suc (count ts)

-- a decision as a test
abbrev pub decided : {P : Type 0} → Dec P → Bool
decided (yes p) = true
decided (no p) = false

-- `==` on types
unfoldable pub same : SignatureToken → SignatureToken → Bool
unfolding ℕ_discrete
same a b = decided (SignatureToken-discrete ℕ_discrete a b)

-- ── bytes ──

-- a u16, low byte first
abbrev pub le16 : ℕ → List ℕ
le16 n = n % 256 ∷ n / 256 ∷ []

-- a type's bytes: a command and its operands
unfoldable mutual
  pub encode : SignatureToken → List ℕ
  encode Bool' = 0x01 ∷ []
  encode U8 = 0x02 ∷ []
  encode U64 = 0x03 ∷ []
  encode U128 = 0x04 ∷ []
  encode Address = 0x05 ∷ []
  encode Signer = 0x06 ∷ []
  encode (Vector t) = 0x07 ∷ encode t
  encode (Struct h) = 0x08 ∷ le16 h
  encode (StructInstantiation h ts) = 0x09 ∷ (h % 256 ∷ h / 256 ∷ count ts ∷ encode_all ts)
  encode (Reference t) = 0x0A ∷ encode t
  encode (MutableReference t) = 0x0B ∷ encode t
  encode (TypeParameter i) = 0x0C ∷ le16 i

  pub encode_all : SignatureTokens → List ℕ
  encode_all []ᵗ = []
  encode_all (t ∷ᵗ ts) = encode t ++ encode_all ts

-- ── nesting ──

-- how many levels a type nests, a leaf being one
unfoldable mutual
  pub depth : SignatureToken → ℕ
  depth Bool' = 1
  depth U8 = 1
  depth U64 = 1
  depth U128 = 1
  depth Address = 1
  depth Signer = 1
  depth (Vector t) = suc (depth t)
  depth (Struct h) = 1
  depth (StructInstantiation h ts) = suc (depth_all ts)
  depth (Reference t) = suc (depth t)
  depth (MutableReference t) = suc (depth t)
  depth (TypeParameter i) = 1

  -- the deepest of a list
  pub depth_all : SignatureTokens → ℕ
  depth_all []ᵗ = 0
  depth_all (t ∷ᵗ ts) = max (depth t) (depth_all ts)

-- ── the tests of `impl SignatureToken` ──

-- what a type is by its outermost constructor, as far as the steps ask
pub data Outer : Type 0 where
  reference mutable_reference vector : SignatureToken → Outer
  integer other : Outer

-- the outermost constructor of a type
unfoldable pub outer : SignatureToken → Outer
outer Bool' = other
outer U8 = integer
outer U64 = integer
outer U128 = integer
outer Address = other
outer Signer = other
outer (Vector t) = vector t
outer (Struct h) = other
outer (StructInstantiation h ts) = other
outer (Reference t) = reference t
outer (MutableReference t) = mutable_reference t
outer (TypeParameter i) = other

-- whether that is u8, u64 or u128
abbrev pub outer_is_integer : Outer → Bool
outer_is_integer (reference t) = false
outer_is_integer (mutable_reference t) = false
outer_is_integer (vector t) = false
outer_is_integer integer = true
outer_is_integer other = false

-- `is_integer`
unfoldable pub is_integer : SignatureToken → Bool
is_integer t = outer_is_integer (outer t)
