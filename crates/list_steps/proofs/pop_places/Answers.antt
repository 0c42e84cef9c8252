use Rattle.std.specs.Prelude.{refl}
use Rattle.type_stack.specs.Answers.{exit_is}
use Rattle.list_steps.specs.Pops.{popping_start, popping_next, popping_bad, popping_end}
use Rattle.list_steps.proofs.pop_places.Goals as goal

pub loop-i-init : goal.loop-i-init
loop-i-init over c = popping_start c.requires

pub returns : goal.returns
returns over c = popping_end c.loop-i.invariant c.loop-i-test.false

pub returns-in_err-below : goal.returns-in_err-below
returns-in_err-below over c =
    rw (exit_is c.from_residual.ensures.1)
    (popping_bad c.loop-i.invariant c.loop-i-test.true (c.get.ensures.some _ c.unwrap-ty.ensures) c.in_err-below.ensures refl)

pub loop-i-preserved : goal.loop-i-preserved
loop-i-preserved over c =
    popping_next c.loop-i.invariant c.loop-i-test.true (c.get.ensures.some _ c.unwrap-ty.ensures) c.in_ok-below.ensures c.args.types.stand refl
