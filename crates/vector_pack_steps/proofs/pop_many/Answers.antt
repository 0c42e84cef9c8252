-- A stack with nothing left to pop is the refusal; otherwise one more is popped.
use Rattle.type_stack.specs.Answers.{exit_is}
use Rattle.vector_pack_steps.specs.Many.{popping_next, popping_none}
use Rattle.vector_pack_steps.proofs.pop_many.Goals as goal

pub returns-in_err-below : goal.returns-in_err-below
returns-in_err-below c = rw (exit_is c.from_residual.ensures.1) (popping_none c.loop-i.invariant c.in_err-below.ensures c.loop-i-test.true)

pub loop-i-preserved : goal.loop-i-preserved
loop-i-preserved c = popping_next c.loop-i.invariant c.in_ok-below.ensures c.loop-i-test.true
