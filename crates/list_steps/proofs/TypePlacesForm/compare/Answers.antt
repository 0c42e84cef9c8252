-- The operand is compared with the type, instantiated.
use Rattle.list_steps.specs.Pops.{instantiated_compared}
use Rattle.list_steps.proofs.TypePlacesForm.compare.Goals as goal

pub returns : goal.returns
returns c = instantiated_compared c.args.self.now.stand c.compare_instantiated.ensures
