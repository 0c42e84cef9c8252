-- The second is the top of what is below the first.
use Rattle.type_stack.specs.Answers.{exit_is}
use Rattle.type_stack.specs.Tops.{two_no_second}
use Rattle.type_stack.proofs.pop_two.Goals as goal

pub returns-in_err-below : goal.returns-in_err-below
returns-in_err-below c = rw (exit_is c.from_residual-in_err-below.ensures.1) (two_no_second c.in_ok-top.ensures c.in_err-below.ensures)
