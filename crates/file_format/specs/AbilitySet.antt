-- How the declared types stand for the values of the definitions: the contracts of this crate are equations through these views.
use Rattle.std.specs.Prelude.{Bool, cond, ℕ, eqb, leb, Option, Some, None}
use Rattle.definitions.specs.AbilitySet.{Ability as AbilityOf, Copy as copy, Drop as drop, Store as store, Key as key}
use Rattle.definitions.specs.Result.{Result}
use Rattle.file_format.specs.Answers.{PartialVMResult, answer}
use Rattle.file_format.specs.declared.Ability.{Ability}
use Rattle.file_format.specs.declared.Ability.TheVariants.{Copy, Drop, Store, Key}
use Rattle.file_format.specs.declared.AbilitySet.{AbilitySet}

abbrev pub ability_of : Ability → AbilityOf
ability_of Copy = copy
ability_of Drop = drop
ability_of Store = store
ability_of Key = key

-- a set of the definitions is its byte
abbrev pub set_of : ℕ → AbilitySet
set_of n = record { 0 = n }

-- `AbilitySet::from_u8`: the sets are the bytes 0 to 15
abbrev pub from_u8 : ℕ → Option AbilitySet
from_u8 byte = cond (leb byte 15) (Some (set_of byte)) None

-- a phantom mark as a unit's bytes have it, after the definitions' `struct_type_parameter`
abbrev pub is_phantom_byte : ℕ → Bool
is_phantom_byte byte = eqb byte 1

abbrev pub abilities_answer : Result ℕ → PartialVMResult AbilitySet
abilities_answer = answer set_of
