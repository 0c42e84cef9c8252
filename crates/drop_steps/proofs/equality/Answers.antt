-- The top of two operands is asked for drop, and compared with the other; a bool is pushed in their place.
use mathlib.Core.Path.{refl}
use Rattle.definitions.specs.TypeSafety as step
use Rattle.signature_token.specs.TokenLaws.{is_bool}
use Rattle.type_stack.specs.Answers.{exit_is}
use Rattle.type_stack.specs.Stepping.{two_then, check_then, check_bad}
use Rattle.operand_steps.specs.Operands.{operand, span, no_left, no_right, yes_both, push_leaf}
use Rattle.step_views.specs.Checks.{ability_then, ability_bad}
use Rattle.drop_steps.proofs.equality.Goals as goal

pub returns-in_err-check_ability : goal.returns-in_err-check_ability
unfolding step.equality
returns-in_err-check_ability c =
    rw (exit_is c.from_residual-in_err-check_ability.ensures.1)
    (two_then c.in_ok-top.ensures
    (λ t u h k. ability_bad (c.in_err-check_ability.ensures (operand h)) (λ set m. check_bad _ (no_left _ refl m))))

pub returns-then-same_type : goal.returns-then-same_type
unfolding step.equality
returns-then-same_type c =
    two_then c.in_ok-top.ensures
    (λ t u h k. ability_then (c.in_ok-check_ability.ensures (operand h))
    (λ set m. check_then _ _
    (yes_both refl m (c.same_type.ensures (span h) (operand k)) c.if-same_type.true)
    (push_leaf c.push_leaf.ensures is_bool)))

pub returns : goal.returns
unfolding step.equality
returns c =
    two_then c.in_ok-top.ensures
    (λ t u h k. ability_then (c.in_ok-check_ability.ensures (operand h))
    (λ set m. check_bad _ (no_right refl m (c.same_type.ensures (span h) (operand k)) c.if-same_type.false)))
