use native.Mathlib.Omega.{arith}
use Rattle.type_stack.specs.Answers.{exit_is}
use Rattle.list_steps.specs.Pushes.{weighing_start, weighing_type, weighing_refused, weighing_small, weighing_full, weighing_next, weighing_done}
use Rattle.list_steps.proofs.weigh_each.Goals as goal

pub loop-init : goal.loop-init
loop-init c = weighing_start c.requires.0

pub invariant_of-instantiated_size : goal.invariant_of-instantiated_size
invariant_of-instantiated_size c = record { stands = weighing_type c.loop.invariant c.loop-test.true c.args.args.stand }

pub returns-in_err-size : goal.returns-in_err-size
returns-in_err-size c = rw (exit_is c.from_residual.ensures.1) (weighing_refused c.loop.invariant c.loop-test.true c.in_err-size.ensures)

pub overflow_add-size : goal.overflow_add-size
overflow_add-size c = omega (arith, weighing_small c.loop.invariant c.loop-test.true c.in_ok-size.ensures c.args.args.stand)

pub returns-then-room-after : goal.returns-then-room-after
returns-then-room-after c = weighing_full c.loop.invariant c.loop-test.true c.in_ok-size.ensures c.if-room-after.true

pub loop-preserved : goal.loop-preserved
loop-preserved c =
    weighing_next c.loop.invariant c.loop-test.true c.in_ok-size.ensures c.requires.1 c.if-room-after.false

pub returns : goal.returns
returns c = weighing_done c.loop.invariant c.loop-test.false
