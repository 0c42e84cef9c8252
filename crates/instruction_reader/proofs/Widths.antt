-- The rule of the table of widths, from one equation that is computed.
use Rattle.std.proofs.Common.{◌≡◌, refl, ℕ, List, map}
use Rattle.std.proofs.lemmas.List.{get_or-map}
use Rattle.definitions.specs.Commands.{InstructionForm, instruction_forms}
use Rattle.instruction_reader.specs.Widths.{width_of, operand_width, WidthTable}

pub computed : (table : List ℕ) → table ≡ map width_of instruction_forms → WidthTable table
unfolding operand_width
computed table e = rw e (record {
  size = refl;
  entry = λ opcode h. get_or-map width_of instruction_forms opcode InstructionForm.unknown 0 h;
})
