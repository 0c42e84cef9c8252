-- The instantiation and its type arguments are looked up, and what is left is that of `borrow_global`.
use Rattle.definitions.specs.TypeSafety as step
use Rattle.type_stack.specs.Answers.{exit_is}
use Rattle.step_views.specs.Looked.{told_then, types_then, looked_bad}
use Rattle.global_steps.proofs.borrow_global_generic.Goals as goal

pub returns-in_err-type_args : goal.returns-in_err-type_args
unfolding step.borrow_global_generic
returns-in_err-type_args c =
    rw (exit_is c.from_residual-in_err-type_args.ensures.1) (told_then _ c.in_ok-inst.ensures (looked_bad _ c.in_err-type_args.ensures.value))

pub returns : goal.returns
unfolding step.borrow_global_generic
returns c = told_then _ c.in_ok-inst.ensures (types_then _ c.in_ok-type_args.ensures.value c.borrow_global.ensures)
