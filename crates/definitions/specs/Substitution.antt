-- The helper functions for types at the end of type_safety.rs: `materialize_type`, `instantiate`, `get_vector_element_type`; and
-- `is_reference` and `is_mutable_reference` of file_format.rs, with what a reference refers to.
use Rattle.std.specs.Prelude.{Bool, true, false, cond, [], ◌∷◌, ℕ}
use Rattle.std.proofs.Math.Option.{Option, some, none}
use Rattle.definitions.specs.Result.{Result, ok, ◌>>?◌, at}
use Rattle.definitions.specs.SignatureToken.{SignatureToken, SignatureTokens, Signature, arguments, Bool', U8, U64, U128, Address, Signer, Vector, Struct, StructInstantiation, Reference, MutableReference, TypeParameter, []ᵗ, ◌∷ᵗ◌, Outer, reference, mutable_reference, vector, integer, other, outer}

-- `materialize_type`: Struct where there are no arguments
unfoldable pub materialize_type : ℕ → Signature → SignatureToken
materialize_type h [] = Struct h
materialize_type h (t ∷ ts) = StructInstantiation h (arguments (t ∷ ts))

-- `instantiate`: each parameter replaced; an index past the list is OUT_OF_TABLE, where the Rust panics
unfoldable mutual
  pub instantiate : SignatureToken → Signature → Result SignatureToken
  instantiate Bool' subst = ok Bool'
  instantiate U8 subst = ok U8
  instantiate U64 subst = ok U64
  instantiate U128 subst = ok U128
  instantiate Address subst = ok Address
  instantiate Signer subst = ok Signer
  instantiate (Vector t) subst = instantiate t subst >>? λ t'. ok (Vector t')
  instantiate (Struct h) subst = ok (Struct h)
  instantiate (StructInstantiation h ts) subst = instantiate_all ts subst >>? λ ts'. ok (StructInstantiation h ts')
  instantiate (Reference t) subst = instantiate t subst >>? λ t'. ok (Reference t')
  instantiate (MutableReference t) subst = instantiate t subst >>? λ t'. ok (MutableReference t')
  instantiate (TypeParameter i) subst = at subst i

  pub instantiate_all : SignatureTokens → Signature → Result SignatureTokens
  instantiate_all []ᵗ subst = ok []ᵗ
  instantiate_all (t ∷ᵗ ts) subst = instantiate t subst >>? λ t'. instantiate_all ts subst >>? λ ts'. ok (t' ∷ᵗ ts')

-- the types of a signature, one after the other; the first failure ends it
unfoldable pub instantiate_each : Signature → Signature → Result Signature
instantiate_each [] subst = ok []
instantiate_each (t ∷ ts) subst = instantiate t subst >>? λ t'. instantiate_each ts subst >>? λ ts'. ok (t' ∷ ts')

-- ── references taken apart ──

-- `Reference(inner) | MutableReference(inner)`
abbrev pub inner_of_outer : Outer → Option SignatureToken
inner_of_outer (reference t) = some t
inner_of_outer (mutable_reference t) = some t
inner_of_outer (vector t) = none
inner_of_outer integer = none
inner_of_outer other = none

-- what a reference of either kind refers to
unfoldable pub inner : SignatureToken → Option SignatureToken
inner t = inner_of_outer (outer t)

-- `MutableReference(inner)` alone
abbrev pub mutable_inner_of_outer : Outer → Option SignatureToken
mutable_inner_of_outer (reference t) = none
mutable_inner_of_outer (mutable_reference t) = some t
mutable_inner_of_outer (vector t) = none
mutable_inner_of_outer integer = none
mutable_inner_of_outer other = none

-- what a `&mut` refers to
unfoldable pub mutable_inner : SignatureToken → Option SignatureToken
mutable_inner t = mutable_inner_of_outer (outer t)

-- whether there is one
abbrev pub is_some : {A : Type 0} → Option A → Bool
is_some none = false
is_some (some a) = true

-- `is_reference`: of either kind
unfoldable pub is_reference : SignatureToken → Bool
is_reference t = is_some (inner t)

-- `is_mutable_reference`
unfoldable pub is_mutable_reference : SignatureToken → Bool
is_mutable_reference t = is_some (mutable_inner t)

-- what a reference refers to: `&mut` only, or either kind
unfoldable pub referred : Bool → SignatureToken → Option SignatureToken
referred mut_only t = cond mut_only (mutable_inner t) (inner t)

-- `Vector(element)`
abbrev pub element_of_outer : Outer → Option SignatureToken
element_of_outer (reference t) = none
element_of_outer (mutable_reference t) = none
element_of_outer (vector t) = some t
element_of_outer integer = none
element_of_outer other = none

-- the element of a vector, where there is one
abbrev pub element_of : Option SignatureToken → Option SignatureToken
element_of none = none
element_of (some t) = element_of_outer (outer t)

-- `get_vector_element_type`: the element of a vector that a reference, or only a `&mut`, refers to
unfoldable pub get_vector_element_type : SignatureToken → Bool → Option SignatureToken
get_vector_element_type vector_ref mut_ref_only = element_of (referred mut_ref_only vector_ref)

-- `Reference` or `MutableReference` of a type, by `mut_`
unfoldable pub reference_to : Bool → SignatureToken → SignatureToken
reference_to true t = MutableReference t
reference_to false t = Reference t
