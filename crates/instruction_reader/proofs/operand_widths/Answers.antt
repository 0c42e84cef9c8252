-- The table is computed from the forms of the instructions.
use mathlib.Core.Path.{refl}
use Rattle.instruction_reader.specs.Widths.{width_of}
use Rattle.instruction_reader.proofs.Widths.{computed}
use Rattle.instruction_reader.proofs.operand_widths.Goals as goal

pub returns : goal.returns
unfolding width_of
returns c = computed _ refl
