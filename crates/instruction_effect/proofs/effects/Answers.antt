-- The test passes at the whole table, whatever the unit and the operands are.
use mathlib.Core.Path.{refl}
use Rattle.definitions.specs.Commands.{one_of}
use Rattle.definitions.specs.StackUsage.{instruction_effect}
use Rattle.record_views.specs.Records.{instruction_of}
use Rattle.instruction_effect.specs.Effects.{looks_up}
use Rattle.instruction_effect.proofs.Table.{agrees, tested}
use Rattle.instruction_effect.proofs.effects.Goals as goal

pub returns : goal.returns
unfolding agrees looks_up one_of instruction_effect instruction_of
returns c = tested _ refl (λ u l x n. tt)
