-- There is no such constant, or its type is pushed.
use Rattle.definitions.specs.TypeSafety as step
use Rattle.copied_pushes.specs.Standing.{push_declared}
use Rattle.step_views.specs.Looked.{type_then}
use Rattle.local_steps.proofs.ld_const.Goals as goal

pub returns : goal.returns
unfolding step.ld_const
returns c = type_then _ c.in_ok-constant.ensures.value (λ p. push_declared p c.encoded.ensures.is c.push_part.ensures)
