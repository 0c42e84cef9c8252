-- What a step asks of an operand's kind: whether it is an integer or a given leaf, and what it refers to.
use Rattle.std.specs.Prelude.{◌≡◌, refl, Bool, false, ◌&&◌, List, [], ◌∷◌, ℕ, ◌≤◌, ◌<◌, leb, ltb, eqb}
use Rattle.std.proofs.Common.{sym, ap, ◌∙◌, eq-eqb, ne_eqb, le-leb}
use Rattle.std.proofs.lemmas.Bool.{lt-leb}
use Rattle.std.proofs.Math.Decide.{ℕ_discrete}
use Rattle.definitions.specs.SignatureToken.{SignatureToken, Bool', U8, U64, U128, Address, Signer, Vector as VectorOf, Struct as StructOf, StructInstantiation as InstantiationOf, Reference as ReferenceOf, MutableReference as MutableReferenceOf, TypeParameter as ParameterOf, same, outer, is_integer}
use Rattle.definitions.specs.Places.{TypeAt}
use Rattle.signature_token.specs.declared.Wrapper.{Wrapper}
use Rattle.signature_token.specs.declared.Wrapper.TheVariants as wrapper
use Rattle.signature_token.specs.declared.Token.{Token}
use Rattle.signature_token.specs.declared.Token.TheVariants.{Leaf, Wrapped, Struct, StructInstantiation, TypeParameter}
use Rattle.type_tests.specs.declared.Referent.{Referent}
use Rattle.type_tests.specs.declared.Referent.TheVariants.{Reference, MutableReference, Value}
use Rattle.signature_token.specs.Token.{token_of, TokenAt}
use Rattle.theorems.specs.Bytes.{equal_bytes}
use Rattle.signature_token.specs.TokenLaws.{IsLeaf, is_bool, is_u8, is_u64, is_u128, is_address, is_signer, leaf_bytes, leaf_at}
use Rattle.signature_token.specs.Same.{same_yes, same_no}

-- ── the words ──

abbrev pub referent_by : Wrapper → ℕ → Referent
referent_by wrapper.Vector x = Value
referent_by wrapper.Reference x = Reference x
referent_by wrapper.MutableReference x = MutableReference x

-- a type taken apart, as a reference
abbrev pub referent_of : Token → Referent
referent_of (Leaf b) = Value
referent_of (Wrapped w x) = referent_by w x
referent_of (Struct h) = Value
referent_of (StructInstantiation h n x) = Value
referent_of (TypeParameter i) = Value

abbrev pub ReferentAt : List ℕ → ℕ → Referent → Type 0
ReferentAt s at r = (p : TypeAt s at) → r ≡ referent_of (token_of p.type at)

-- r says whether the type at `at` is an integer
abbrev pub IntegerAt : List ℕ → ℕ → Bool → Type 0
IntegerAt s at r = (p : TypeAt s at) → r ≡ is_integer p.type

-- r says whether the type at `at` is the leaf of that command
abbrev pub LeafAt : List ℕ → ℕ → ℕ → Bool → Type 0
LeafAt s at command r = (p : TypeAt s at) (u : SignatureToken) → IsLeaf u command → r ≡ same p.type u

-- ── the laws ──

-- a leaf taken apart shows its command
leaf_token : {u : SignatureToken} {b : ℕ} (at : ℕ) → IsLeaf u b → token_of u at ≡ Leaf b
unfolding token_of
leaf_token at is_bool = refl
leaf_token at is_u8 = refl
leaf_token at is_u64 = refl
leaf_token at is_u128 = refl
leaf_token at is_address = refl
leaf_token at is_signer = refl

-- whether a type taken apart is an integer: its command is 02, 03 or 04
abbrev pub integer_of : Token → Bool
integer_of (Leaf b) = leb 2 b && ltb b 5
integer_of (Wrapped w x) = false
integer_of (Struct h) = false
integer_of (StructInstantiation h n x) = false
integer_of (TypeParameter i) = false

pub integer_token : (t : SignatureToken) (at : ℕ) → is_integer t ≡ integer_of (token_of t at)
unfolding is_integer outer token_of
integer_token Bool' at = refl
integer_token U8 at = refl
integer_token U64 at = refl
integer_token U128 at = refl
integer_token Address at = refl
integer_token Signer at = refl
integer_token (VectorOf t) at = refl
integer_token (StructOf h) at = refl
integer_token (InstantiationOf h ts) at = refl
integer_token (ReferenceOf t) at = refl
integer_token (MutableReferenceOf t) at = refl
integer_token (ParameterOf i) at = refl

module _ {s : List ℕ} {at : ℕ} {r : Token} (w : TokenAt s at r) where
  pub integer_by : {b : Bool} → b ≡ integer_of r → IntegerAt s at b
  integer_by e p = e ∙ ap integer_of (w p) ∙ sym (integer_token p.type at)

  -- a leaf is an integer by its command
  pub integer_leaf : {b : ℕ} → r ≡ Leaf b → 2 ≤ b → IntegerAt s at (ltb b 5)
  integer_leaf {b} e k = integer_by (rw (e, le-leb 2 b k))

  pub integer_low : {b : ℕ} → r ≡ Leaf b → b < 2 → IntegerAt s at (leb 2 b)
  integer_low {b} e k = integer_by (rw (e, lt-leb 2 b k))

  pub integer_not : ((b : ℕ) → r ≡ Leaf b → ⊥) → IntegerAt s at false
  integer_not f = integer_by (go r f)
    where
      go : (t : Token) → ((b : ℕ) → t ≡ Leaf b → ⊥) → false ≡ integer_of t
      go (Leaf b) g = absurd (g b refl)
      go (Wrapped w x) g = refl
      go (Struct h) g = refl
      go (StructInstantiation h n x) g = refl
      go (TypeParameter i) g = refl

  pub leaf_not : {command : ℕ} → (r ≡ Leaf command → ⊥) → LeafAt s at command false
  leaf_not f p u l = sym (same_no p.type u (λ e. f (w p ∙ ap (λ (t : SignatureToken). token_of t at) e ∙ leaf_token at l)))

  -- two leaves of one command are one type
  pub leaf_test : {b command : ℕ} → r ≡ Leaf b → LeafAt s at command (eqb b command)
  leaf_test {b} {command} e = go (ℕ_discrete b command)
    where
      go : Dec (b ≡ command) → LeafAt s at command (eqb b command)
      go (yes k) p u l =
          eq-eqb b command k ∙ sym (same_yes p.type u ((equal_bytes p.type u).1 (leaf_bytes (leaf_at w p e) ∙ ap (λ (n : ℕ). n ∷ []) k ∙ sym (leaf_bytes l))))
      go (no k) p u l = ne_eqb b command k ∙ leaf_not (λ f. k (cc)) p u l
