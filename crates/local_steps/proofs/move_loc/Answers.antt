-- There is no such local, or its type is pushed.
use Rattle.definitions.specs.TypeSafety as step
use Rattle.signature_token.specs.Encoded.{type_bytes}
use Rattle.copied_pushes.specs.Standing.{push_declared}
use Rattle.step_views.specs.Looked.{looked_then}
use Rattle.locals.specs.Locals.{local_here}
use Rattle.local_steps.proofs.move_loc.Goals as goal

pub returns : goal.returns
unfolding step.move_loc
returns c = looked_then _ c.in_ok-local.ensures (λ t l. push_declared (local_here l) (type_bytes l.ends) c.push_part.ensures)
