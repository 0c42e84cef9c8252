-- The popped type is asked for drop.
use Rattle.definitions.specs.TypeSafety as step
use Rattle.type_stack.specs.Answers.{exit_is}
use Rattle.type_stack.specs.Stepping.{pop_then, check_last, check_last_bad}
use Rattle.operand_steps.specs.Operands.{operand}
use Rattle.step_views.specs.Checks.{ability_then, ability_bad}
use Rattle.drop_steps.proofs.pop_step.Goals as goal

pub returns-in_err-check_ability : goal.returns-in_err-check_ability
unfolding step.pop_step
returns-in_err-check_ability c =
    rw (exit_is c.from_residual-in_err-check_ability.ensures.1)
    (pop_then c.in_ok-top.ensures (λ t h. ability_bad (c.in_err-check_ability.ensures (operand h)) (λ set m. check_last_bad m)))

pub returns : goal.returns
unfolding step.pop_step
returns c = pop_then c.in_ok-top.ensures (λ t h. ability_then (c.in_ok-check_ability.ensures (operand h)) (λ set m. check_last _ m))
