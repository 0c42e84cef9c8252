-- There is no such local, or it is a reference, or a reference to it is pushed.
use Rattle.std.specs.Prelude.{not}
use mathlib.Core.Path.{ap, ◌∙◌}
use Rattle.definitions.specs.TypeSafety as step
use Rattle.type_stack.specs.Stepping.{check_then, check_bad}
use Rattle.signature_token.specs.Encoded.{type_bytes}
use Rattle.copied_pushes.specs.Standing.{push_reference}
use Rattle.step_views.specs.Looked.{looked_then}
use Rattle.locals.specs.Locals.{local_here}
use Rattle.reference_steps.specs.Inner.{not_reference}
use Rattle.reference_steps.proofs.borrow_loc.Goals as goal

pub returns-then-is_some : goal.returns-then-is_some
unfolding step.borrow_loc
returns-then-is_some c =
    looked_then _ c.in_ok-local.ensures
    (λ t l. check_bad _ (not_reference c.inner_of.ensures (local_here l) c.is_some.ensures ∙ ap not c.if-is_some.true))

pub returns : goal.returns
unfolding step.borrow_loc
returns c =
    looked_then _ c.in_ok-local.ensures
    (λ t l. check_then _ _ (not_reference c.inner_of.ensures (local_here l) c.is_some.ensures ∙ ap not c.if-is_some.false)
    (push_reference (local_here l) (type_bytes l.ends) c.reference_command-command.ensures c.push_wrapped.ensures))
