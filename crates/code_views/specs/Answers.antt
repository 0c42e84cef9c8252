-- How the answers of the look-ups stand for those of the definitions.
use Rattle.std.specs.Prelude.{◌≡◌, ℕ, ◌+◌, ◌<◌, ◌≤◌, get_or}
use Rattle.definitions.specs.Result.{ok, at}
use Rattle.definitions.specs.CompiledUnit as defs
use Rattle.record_views.specs.Records.{instruction_of}
use Rattle.unit_tables.specs.declared.UnitView.{UnitView}
use Rattle.unit_tables.specs.Compiled.{compiled}
use Rattle.record_views.specs.declared.Instruction.{Instruction}
use Rattle.code_views.specs.declared.Block.{Block}

-- the byte at the place of instruction i: its opcode
unfoldable pub opcode_byte : UnitView → ℕ → ℕ
opcode_byte unit i = get_or unit.bytes.now (get_or unit.index.now (unit.view.code.base + i) 0) 0

-- r is instruction i, and its opcode is o
pub record InstructionAt (u : defs.CompiledUnit) (i o : ℕ) (r : Instruction) : Type 0 where
  pub known : r.opcode < 71
  pub opcode : r.opcode ≡ o
  pub is : at u.code i ≡ ok (instruction_of r.opcode r.local r.operand r.count)

-- r is the opcode of instruction i, and it is o
pub record OpcodeAt (u : defs.CompiledUnit) (i o r : ℕ) : Type 0 where
  pub known : r < 71
  pub opcode : r ≡ o
  -- what the opcode does not take is anything
  pub local : ℕ
  pub operand : ℕ
  pub count : ℕ
  pub is : at u.code i ≡ ok (instruction_of r local operand count)

abbrev pub block_of : Block → defs.Block
block_of b = record { first = b.first; last = b.last }

-- r is block i
pub record BlockAt (unit : UnitView) (i : ℕ) (r : Block) : Type 0 where
  pub is : at (compiled unit).blocks i ≡ ok (block_of r)
  pub ordered : r.first ≤ r.last
  pub within : r.last < unit.view.code.count
