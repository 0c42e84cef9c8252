-- The operand is compared with the type as it stands.
use Rattle.list_steps.specs.Pops.{written_compared}
use Rattle.list_steps.proofs.WrittenForm.compare.Goals as goal

pub returns : goal.returns
returns c = written_compared c.same_type.ensures
