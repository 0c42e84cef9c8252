-- The struct was found and has key, and the popped operand is an address: the struct is pushed.
use Rattle.definitions.specs.TypeSafety as step
use Rattle.type_stack.specs.Answers.{exit_is}
use Rattle.step_views.specs.Looked.{struct_types, with_type}
use Rattle.resource_steps.specs.Resources.{none_found, key_bad, no_address, at_address}
use Rattle.resource_steps.proofs.move_from.Goals as goal

pub returns-in_err-found : goal.returns-in_err-found
unfolding step.move_from
returns-in_err-found c = λ q. rw (exit_is c.from_residual.ensures.1) (none_found q _ c.in_err-found.was)

pub returns-in_err-needs_key : goal.returns-in_err-needs_key
unfolding step.move_from
returns-in_err-needs_key c =
    λ q. rw (exit_is c.from_residual-in_err-needs_key.ensures.1) (key_bad q c.in_ok-found.was _ c.in_err-needs_key.ensures)

pub returns-in_err-below : goal.returns-in_err-below
unfolding step.move_from
returns-in_err-below c =
    λ q. rw (exit_is c.from_residual-in_err-below.ensures.1)
    (no_address q c.in_ok-found.was _ c.in_ok-needs_key.ensures c.in_err-below.ensures)

pub returns : goal.returns
unfolding step.move_from
returns c =
    λ q. at_address q c.in_ok-found.was _ c.in_ok-needs_key.ensures c.in_ok-below.ensures (λ p. rw (← with_type p) (c.push_struct.ensures.steps (struct_types p)))
