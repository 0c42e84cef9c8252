-- The referent is another struct, or there is no such field, or a reference to the field's type is pushed.
use Rattle.type_stack.specs.Answers.{exit_is}
use Rattle.type_stack.specs.Stepping.{check_then, check_bad}
use Rattle.step_views.specs.Looked.{looked_bad, looked_then}
use Rattle.list_steps.specs.Made.{arguments_of}
use Rattle.field_steps.specs.Borrows.{borrow_from}
use Rattle.field_steps.specs.Program.{struct_test}
use Rattle.field_steps.proofs.borrow_from.Goals as goal

pub returns-then-not-struct_is : goal.returns-then-not-struct_is
unfolding borrow_from
returns-then-not-struct_is c = record { steps = λ o l p. check_bad _ (struct_test c.struct_is.ensures c.if-not-struct_is.true o l p) }

pub returns-in_err-field_def : goal.returns-in_err-field_def
unfolding borrow_from
returns-in_err-field_def c =
    rw (exit_is c.from_residual.ensures.1)
    (record {
      steps = λ o l p. check_then _ _
          (struct_test c.struct_is.ensures c.if-not-struct_is.false o l p)
          (looked_bad _ (c.in_err-field_def.ensures.is o));
    })

pub returns : goal.returns
unfolding borrow_from
returns c =
    record {
      steps = λ o l p. check_then _ _
          (struct_test c.struct_is.ensures c.if-not-struct_is.false o l p)
          (looked_then _ (c.in_ok-field_def.ensures.is o)
          (λ t h. c.push_field_reference.ensures.steps (record { type = t; stands = h }) (arguments_of l c.placed-args.ensures)));
    }
