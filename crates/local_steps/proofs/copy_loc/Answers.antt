-- There is no such local, or it is asked for copy and pushed.
use Rattle.definitions.specs.TypeSafety as step
use Rattle.type_stack.specs.Answers.{exit_is}
use Rattle.type_stack.specs.Stepping.{check_then, check_bad}
use Rattle.signature_token.specs.Encoded.{type_bytes}
use Rattle.copied_pushes.specs.Standing.{push_declared}
use Rattle.step_views.specs.Looked.{looked_then}
use Rattle.step_views.specs.Checks.{ability_then, ability_bad}
use Rattle.locals.specs.Locals.{local_here}
use Rattle.local_steps.proofs.copy_loc.Goals as goal

pub returns-in_err-check_ability : goal.returns-in_err-check_ability
unfolding step.copy_loc
returns-in_err-check_ability c =
    rw (exit_is c.from_residual-in_err-check_ability.ensures.1)
    (looked_then _ c.in_ok-local.ensures
    (λ t l. ability_bad (c.in_err-check_ability.ensures (local_here l)) (λ set h. check_bad _ h)))

pub returns : goal.returns
unfolding step.copy_loc
returns c =
    looked_then _ c.in_ok-local.ensures
    (λ t l. ability_then (c.in_ok-check_ability.ensures (local_here l))
    (λ set h. check_then _ _ h (push_declared (local_here l) (type_bytes l.ends) c.push_part.ensures)))
