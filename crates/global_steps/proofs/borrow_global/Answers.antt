-- The popped operand is an address; only then is the definition looked up and the struct asked for key, and a reference to it pushed.
use Rattle.definitions.specs.TypeSafety as step
use Rattle.type_stack.specs.Answers.{exit_is}
use Rattle.type_stack.specs.Stepping.{check_then, check_bad}
use Rattle.operand_steps.specs.Leaves.{address_refused, address_then}
use Rattle.step_views.specs.Checks.{ability_then, ability_bad}
use Rattle.step_views.specs.Looked.{looked_then, looked_bad}
use Rattle.global_steps.proofs.borrow_global.Goals as goal

pub returns-in_err-below : goal.returns-in_err-below
unfolding step.borrow_global
returns-in_err-below c = λ q. rw (exit_is c.from_residual.ensures.1) (address_refused c.in_err-below.ensures _)

pub returns-in_err-def : goal.returns-in_err-def
unfolding step.borrow_global
returns-in_err-def c =
    λ q. rw (exit_is c.from_residual-in_err-def.ensures.1) (address_then c.in_ok-below.ensures _ (looked_bad _ c.in_err-def.ensures.value))

pub returns-in_err-check_struct_ability : goal.returns-in_err-check_struct_ability
unfolding step.borrow_global
returns-in_err-check_struct_ability c =
    λ q. rw (exit_is c.from_residual-in_err-check_struct_ability.ensures.1)
    (address_then c.in_ok-below.ensures _ (looked_then _ c.in_ok-def.ensures.value
    (λ e n. rw (← n.handle) (ability_bad (c.in_err-check_struct_ability.ensures q) (λ set m. check_bad _ m)))))

pub returns : goal.returns
unfolding step.borrow_global
returns c =
    λ q. address_then c.in_ok-below.ensures _ (looked_then _ c.in_ok-def.ensures.value
    (λ e n. rw (← n.handle)
    (ability_then (c.in_ok-check_struct_ability.ensures q) (λ set m. check_then _ _ m (c.push_struct_reference.ensures.steps q)))))
