-- How the answers of the look-ups stand for those of the definitions.
use Rattle.std.specs.Prelude.{List, map, ◌≡◌, ℕ, ◌+◌, ◌≤◌, length, take, drop}
use Rattle.definitions.specs.SignatureToken.{SignatureToken}
use Rattle.definitions.specs.CompiledUnit as defs
use Rattle.definitions.specs.Abilities as defs_abilities
use Rattle.file_format.specs.AbilitySet.{is_phantom_byte, abilities_answer}
use Rattle.file_format.specs.Answers.{PartialVMResult}
use Rattle.file_format.specs.declared.AbilitySet.{AbilitySet}
use Rattle.definitions.specs.Reader.{struct_handle}
use Rattle.definitions.specs.Places.{TableAt}
use Rattle.binary_views.specs.declared.AbilityTables.{AbilityTables}
use Rattle.ability_views.specs.declared.StructHandle.{StructHandle}

-- ── structs ──

-- a struct handle, and the bytes of its type parameters
pub record HandleIs (s : List ℕ) (h : defs.StructHandle) (r : StructHandle) : Type 0 where
  pub abilities : r.abilities.0 ≡ h.abilities
  pub counted : r.count ≡ length h.type_parameters
  pub within : r.parameters + r.count ≤ length s
  pub phantoms : map is_phantom_byte (take r.count (drop r.parameters s)) ≡ map defs_abilities.is_phantom_of h.type_parameters

-- ── abilities ──

-- the unit's bytes, its struct handles' places and the constraints' bytes
pub record ContextIs (s : List ℕ) (u : defs.CompiledUnit) (r : AbilityTables) : Type 0 where
  pub unit_is : r.unit.now ≡ s
  pub stand : TableAt struct_handle s r.handles.now u.struct_handles
  pub constraints : r.constraints.now ≡ u.function.type_parameters

pub record AbilitiesIs (u : defs.CompiledUnit) (t : SignatureToken) (r : PartialVMResult AbilitySet) : Type 0 where
  pub is : r ≡ abilities_answer (defs_abilities.abilities u t)
