-- No such instantiation, no such signature, or the borrow of its handle's field with the types of the signature.
use Rattle.definitions.specs.TypeSafety as step
use Rattle.type_stack.specs.Answers.{exit_is}
use Rattle.step_views.specs.Looked.{looked_bad, told_then, types_then}
use Rattle.field_steps.proofs.borrow_field_generic.Goals as goal

pub returns-in_err-type_args : goal.returns-in_err-type_args
unfolding step.borrow_field_generic
returns-in_err-type_args c =
    rw (exit_is c.from_residual-in_err-type_args.ensures.1)
    (told_then _ c.in_ok-inst.ensures (looked_bad _ c.in_err-type_args.ensures.value))

pub returns : goal.returns
unfolding step.borrow_field_generic
returns c = told_then _ c.in_ok-inst.ensures (types_then _ c.in_ok-type_args.ensures.value c.borrow_field.ensures)
