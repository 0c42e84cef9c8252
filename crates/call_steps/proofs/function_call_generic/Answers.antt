-- The instantiation, its handle and its type arguments are looked up, and what is left is that of `call` with these arguments.
use Rattle.definitions.specs.TypeSafety as step
use Rattle.type_stack.specs.Answers.{exit_is}
use Rattle.step_views.specs.Looked.{told_then, told_bad, looked_bad, types_then}
use Rattle.list_steps.specs.Made.{placed_types}
use Rattle.call_steps.proofs.function_call_generic.Goals as goal

pub returns-in_err-handle : goal.returns-in_err-handle
unfolding step.function_call_generic
returns-in_err-handle c =
    rw (exit_is c.from_residual-in_err-handle.ensures.1) (told_then _ c.in_ok-inst.ensures (told_bad _ c.in_err-handle.ensures))

pub returns-in_err-type_args : goal.returns-in_err-type_args
unfolding step.function_call_generic
returns-in_err-type_args c =
    rw (exit_is c.from_residual-in_err-type_args.ensures.1)
    (told_then _ c.in_ok-inst.ensures (told_then _ c.in_ok-handle.ensures (looked_bad _ c.in_err-type_args.ensures.value)))

pub returns : goal.returns
unfolding step.function_call_generic
returns c =
    told_then _ c.in_ok-inst.ensures
    (told_then _ c.in_ok-handle.ensures (types_then _ c.in_ok-type_args.ensures.value (λ ts. rw (placed_types ts c.placed-args.ensures _) at c.call.ensures)))
