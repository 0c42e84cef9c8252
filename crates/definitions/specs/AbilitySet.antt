-- `Ability` and `AbilitySet` of file_format.rs; document 01's section "Ability set". A set is a byte, 0 to 15.
use Rattle.std.specs.Prelude.{Bool, cond, ℕ, eqb, length}
use mathlib.Core.List.{List, [], ◌∷◌, foldl}
use Rattle.std.specs.Int.Bits.{bit_and, bit_or}
use Rattle.status.specs.declared.StatusCode.TheVariants.{VERIFIER_INVARIANT_VIOLATION}
use Rattle.definitions.specs.Result.{Result, ok, err}

-- `Ability`, in the order of its bits
pub data Ability : Type 0 where
  Copy Drop Store Key : Ability

-- `Ability as u8`
abbrev pub bit : Ability → ℕ
bit Copy = 1
bit Drop = 2
bit Store = 4
bit Key = 8

-- the sum of its members' bits
abbrev pub AbilitySet : Type 0
AbilitySet = ℕ

-- `AbilitySet::EMPTY`
abbrev pub EMPTY : AbilitySet
EMPTY = 0

-- `AbilitySet::PRIMITIVES`: copy, drop, store
abbrev pub PRIMITIVES : AbilitySet
PRIMITIVES = 7

-- `AbilitySet::REFERENCES`: copy, drop
abbrev pub REFERENCES : AbilitySet
REFERENCES = 3

-- `AbilitySet::SIGNER`: drop
abbrev pub SIGNER : AbilitySet
SIGNER = 2

-- `AbilitySet::VECTOR`: copy, drop, store
abbrev pub VECTOR : AbilitySet
VECTOR = 7

-- `AbilitySet::union`
unfoldable pub union : AbilitySet → AbilitySet → AbilitySet
union a b = bit_or a b

-- `AbilitySet::intersect`
unfoldable pub intersect : AbilitySet → AbilitySet → AbilitySet
intersect a b = bit_and a b

-- `AbilitySet::has_ability`
unfoldable pub has_ability : AbilitySet → Ability → Bool
has_ability set ability = eqb (bit_and (bit ability) set) (bit ability)

-- `AbilitySet::has_copy`
abbrev pub has_copy : AbilitySet → Bool
has_copy set = has_ability set Copy

-- `AbilitySet::has_drop`
abbrev pub has_drop : AbilitySet → Bool
has_drop set = has_ability set Drop

-- `AbilitySet::has_store`
abbrev pub has_store : AbilitySet → Bool
has_store set = has_ability set Store

-- `AbilitySet::has_key`
abbrev pub has_key : AbilitySet → Bool
has_key set = has_ability set Key

-- `Ability::required_by`, which abilities ask this one of an argument: store is asked by store and by key, key by none
unfoldable pub required_by : Ability → AbilitySet
required_by Copy = bit Copy
required_by Drop = bit Drop
required_by Store = bit_or (bit Store) (bit Key)
required_by Key = EMPTY

-- a set's part of the union, where it has that ability
unfoldable pub with_required_by : AbilitySet → AbilitySet → Ability → AbilitySet
with_required_by set acc ability = cond (has_ability set ability) (union acc (required_by ability)) acc

-- the union of `required_by` over a set's abilities, as `polymorphic_abilities` folds it
unfoldable pub required_by_any : AbilitySet → AbilitySet
required_by_any set = foldl (with_required_by set) EMPTY (Copy ∷ Drop ∷ Store ∷ Key ∷ [])

-- one argument's part: a phantom parameter asks nothing of it
unfoldable pub meet_argument : AbilitySet → Bool → AbilitySet → AbilitySet
meet_argument acc is_phantom argument = cond is_phantom acc (intersect acc (required_by_any argument))

-- the fold of `polymorphic_abilities`, over parameters and arguments in step
unfoldable pub meet_arguments : AbilitySet → List Bool → List AbilitySet → AbilitySet
meet_arguments acc [] arguments = acc
meet_arguments acc (p ∷ ps) [] = acc
meet_arguments acc (p ∷ ps) (a ∷ arguments) = meet_arguments (meet_argument acc p a) ps arguments

-- `AbilitySet::polymorphic_abilities`: the declared set, the parameters' phantom marks, the arguments' sets
unfoldable pub polymorphic_abilities : AbilitySet → List Bool → List AbilitySet → Result AbilitySet
polymorphic_abilities declared phantoms arguments =
    cond (eqb (length phantoms) (length arguments)) (ok (meet_arguments declared phantoms arguments)) (err VERIFIER_INVARIANT_VIOLATION)
