-- The rule of the table of effects.
use Rattle.std.specs.Prelude.{◌≡◌, Bool, false, List, [], ◌∷◌, ℕ, ◌<◌, eqb, get_or}
use Rattle.definitions.specs.Result.{ok}
use Rattle.definitions.specs.CompiledUnit.{CompiledUnit}
use Rattle.definitions.specs.Commands.{one_of}
use Rattle.definitions.specs.StackUsage as defs
use Rattle.record_views.specs.Records.{instruction_of}
use Rattle.instruction_effect.specs.declared.Effect.{Effect}

abbrev pub effect_of : Effect → defs.Effect
effect_of pair = record { pops = pair.0; pushes = pair.1 }

-- Ret, Call, CallGeneric, Pack, PackGeneric, Unpack, UnpackGeneric, VecPack, VecUnpack: their effect is looked up
unfoldable pub looks_up : ℕ → Bool
looks_up opcode = one_of (1 ∷ 17 ∷ 18 ∷ 19 ∷ 20 ∷ 21 ∷ 22 ∷ 63 ∷ 69 ∷ []) opcode

-- the pair of an opcode is marked exactly where the opcode looks its effect up, and else is its effect in the unit u with the operands l, x, n
pub record PairOf (u : CompiledUnit) (l x n opcode : ℕ) (pair : Effect) : Type 0 where
  pub marked : looks_up opcode ≡ eqb pair.0 0xFF
  pub agrees : looks_up opcode ≡ false → defs.instruction_effect u (instruction_of opcode l x n) ≡ ok (effect_of pair)

-- in every unit and with all operands
pub record EntryOf (opcode : ℕ) (pair : Effect) : Type 0 where
  pub is : (u : CompiledUnit) (l x n : ℕ) → PairOf u l x n opcode pair

-- each of the table's pairs is that of the opcode at its place
pub record EffectTable (table : List Effect) : Type 0 where
  pub entry : (opcode : ℕ) → opcode < 71 → (d : Effect) → EntryOf opcode (get_or table opcode d)
