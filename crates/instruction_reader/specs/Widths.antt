-- How many bytes stand after each opcode, and the rule of a table of these numbers.
use Rattle.std.specs.Prelude.{◌≡◌, List, ℕ, ◌<◌, length, get_or}
use Rattle.definitions.specs.Commands.{InstructionForm, plain, unkept, local, instruction_forms}

-- how many bytes stand after an opcode, by its form
unfoldable pub width_of : InstructionForm → ℕ
width_of (plain i) = 0
width_of (unkept n i) = n
width_of (local f) = 1
width_of (InstructionForm.index f) = 2
width_of (InstructionForm.counted f) = 10
width_of InstructionForm.unknown = 0

unfoldable pub operand_width : ℕ → ℕ
operand_width opcode = width_of (get_or instruction_forms opcode InstructionForm.unknown)

-- each of the table's entries is how many bytes stand after the opcode at its place
pub record WidthTable (table : List ℕ) : Type 0 where
  pub size : length table ≡ 71
  pub entry : (opcode : ℕ) → opcode < 71 → get_or table opcode 0 ≡ operand_width opcode
