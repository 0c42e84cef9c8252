-- The handle is looked up, and what is left is that of `call` with no type arguments.
use Rattle.definitions.specs.Places.{none}
use Rattle.definitions.specs.TypeSafety as step
use Rattle.step_views.specs.Looked.{told_then}
use Rattle.list_steps.specs.Made.{no_arguments}
use Rattle.call_steps.proofs.function_call.Goals as goal

pub invariant_of-args : goal.invariant_of-args
invariant_of-args c = record { stand = record { subst = _; standing = none } }

pub returns : goal.returns
unfolding step.function_call
returns c = told_then _ c.in_ok-handle.ensures (rw (no_arguments _) at c.call.ensures)
