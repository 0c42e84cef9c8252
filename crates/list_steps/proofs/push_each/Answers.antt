-- The pushes are weighed, and written where they fit.
use Rattle.type_stack.specs.Answers.{exit_is}
use Rattle.list_steps.specs.Pushes.{weighed_stuck}
use Rattle.list_steps.proofs.push_each.Goals as goal

pub returns-in_err-weigh_each : goal.returns-in_err-weigh_each
returns-in_err-weigh_each c = rw (exit_is c.from_residual.ensures.1) (weighed_stuck c.in_err-weigh_each.ensures)
