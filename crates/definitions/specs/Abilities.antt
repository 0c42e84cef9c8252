-- `BinaryIndexedView::abilities` of binary_views.rs.
use Rattle.std.specs.Prelude.{Bool, false, List, [], ◌∷◌, map}
use Rattle.definitions.specs.Result.{Result, ok, ◌>>?◌, at}
use Rattle.definitions.specs.AbilitySet.{AbilitySet, PRIMITIVES, REFERENCES, SIGNER, VECTOR, polymorphic_abilities}
use Rattle.definitions.specs.SignatureToken.{SignatureToken, SignatureTokens, Bool', U8, U64, U128, Address, Signer, Vector, Struct, StructInstantiation, Reference, MutableReference, TypeParameter, []ᵗ, ◌∷ᵗ◌}
use Rattle.definitions.specs.CompiledUnit.{CompiledUnit, StructHandle, StructTypeParameter}

-- a parameter's phantom mark
abbrev pub is_phantom_of : StructTypeParameter → Bool
is_phantom_of p = p.is_phantom

-- over the struct handles and the abilities of the function's type parameters. For an instantiated struct the handle is looked up,
-- then the arguments left to right, the first failure ending the walk; only then are lengths compared.
module _ (struct_handles : List StructHandle) (constraints : List AbilitySet) where
  unfoldable mutual
    pub abilities_in : SignatureToken → Result AbilitySet
    abilities_in Bool' = ok PRIMITIVES
    abilities_in U8 = ok PRIMITIVES
    abilities_in U64 = ok PRIMITIVES
    abilities_in U128 = ok PRIMITIVES
    abilities_in Address = ok PRIMITIVES
    abilities_in Signer = ok SIGNER
    abilities_in (Vector t) = abilities_in t >>? λ a. polymorphic_abilities VECTOR (false ∷ []) (a ∷ [])
    abilities_in (Struct h) = at struct_handles h >>? λ sh. ok sh.abilities
    abilities_in (StructInstantiation h ts) =
        at struct_handles h >>? λ sh. abilities_of_all ts >>? λ sets.
        polymorphic_abilities sh.abilities (map is_phantom_of sh.type_parameters) sets
    abilities_in (Reference t) = ok REFERENCES
    abilities_in (MutableReference t) = ok REFERENCES
    abilities_in (TypeParameter i) = at constraints i

    pub abilities_of_all : SignatureTokens → Result (List AbilitySet)
    abilities_of_all []ᵗ = ok []
    abilities_of_all (t ∷ᵗ ts) = abilities_in t >>? λ a. abilities_of_all ts >>? λ sets. ok (a ∷ sets)

-- `TypeSafetyChecker::abilities`
unfoldable pub abilities : CompiledUnit → SignatureToken → Result AbilitySet
abilities u t = abilities_in u.struct_handles u.function.type_parameters t
