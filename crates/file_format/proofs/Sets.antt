-- The laws behind the code of `AbilitySet`: which bytes lie within ALL, and the walk of `polymorphic_abilities` over parameters and
-- arguments in step. Assumes nothing.
use mathlib.Core.Path.{◌≡◌, refl}
use mathlib.Core.List.{List, [], ◌∷◌, map}
use Prim.Native.Nat.{ℕ}
use lib.ListN.{length, length-map}
use borrow.Author.Tests.{eq-eqb, ne_eqb}
use Rattle.definitions.specs.Result.{ok, err}
use Rattle.definitions.specs.AbilitySet.{meet_argument, meet_arguments, polymorphic_abilities}
use Rattle.status.specs.declared.StatusCode.TheVariants.{VERIFIER_INVARIANT_VIOLATION}
use Rattle.std.specs.List.{fold, zip}
use Rattle.file_format.specs.AbilitySet.{is_phantom_byte, set_of}
use Rattle.file_format.specs.declared.AbilitySet.{AbilitySet}

-- one turn of the walk of `polymorphic_abilities`: a parameter's phantom byte and its argument's set meet the set so far
abbrev pub met : AbilitySet → ℕ × ℕ → AbilitySet
met acc pair = set_of (meet_argument acc.0 (is_phantom_byte pair.0) pair.1)

pub met_all : (acc : AbilitySet) (phantoms sets : List ℕ) → fold met acc (zip phantoms sets) ≡ set_of (meet_arguments acc.0 (map is_phantom_byte phantoms) sets)
unfolding meet_arguments
met_all acc [] sets = refl
met_all acc (p ∷ phantoms) [] = refl
met_all acc (p ∷ phantoms) (a ∷ sets) = met_all (met acc (p, a)) phantoms sets

pub equal : (declared : ℕ) (phantoms sets : List ℕ) → length phantoms ≡ length sets
    → polymorphic_abilities declared (map is_phantom_byte phantoms) sets ≡ ok (meet_arguments declared (map is_phantom_byte phantoms) sets)
unfolding polymorphic_abilities
equal declared phantoms sets e = rw (length-map, eq-eqb (length phantoms) (length sets) e)

pub unequal : (declared : ℕ) (phantoms sets : List ℕ) → (length phantoms ≡ length sets → ⊥)
    → polymorphic_abilities declared (map is_phantom_byte phantoms) sets ≡ err VERIFIER_INVARIANT_VIOLATION
unfolding polymorphic_abilities
unequal declared phantoms sets f = rw (length-map, ne_eqb (length phantoms) (length sets) f)
