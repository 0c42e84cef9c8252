-- The look-up was refused, the operand is not the struct, or that is native, or its fields are unpacked.
use Rattle.std.specs.Prelude.{refl}
use Rattle.definitions.specs.TypeSafety as step
use Rattle.type_stack.specs.Answers.{exit_is}
use Rattle.type_stack.specs.Stepping.{look_then, look_bad}
use Rattle.type_stack.specs.Tops.{top_under}
use Rattle.operand_steps.specs.Operands.{top_span}
use Rattle.step_views.specs.Looked.{struct_given, struct_refused}
use Rattle.struct_steps.specs.Packing.{fields_bad, unpack_then, struct_none, struct_other, struct_popped}
use Rattle.struct_steps.proofs.unpack.Goals as goal

pub struct_is-requires : goal.struct_is-requires
struct_is-requires c = top_span c.requires.stacked c.in_ok-top.ensures

pub unpack_fields-requires-clause-stacked : goal.unpack_fields-requires-clause-stacked
unpack_fields-requires-clause-stacked c = top_under c.requires.stacked c.in_ok-top.ensures

pub returns-in_err-found : goal.returns-in_err-found
unfolding step.unpack
returns-in_err-found c = λ q. rw (exit_is c.from_residual.ensures.1) (look_bad _ (struct_refused q c.in_err-found.was))

pub returns-in_err-top : goal.returns-in_err-top
unfolding step.unpack
returns-in_err-top c =
    λ q. struct_given q step.unpack c.in_ok-found.was
    (λ p. rw (exit_is c.from_residual-in_err-top.ensures.1) (look_then _ refl (struct_none p _ c.in_err-top.ensures)))

pub returns-then-not-struct_is : goal.returns-then-not-struct_is
unfolding step.unpack
returns-then-not-struct_is c =
    λ q. struct_given q step.unpack c.in_ok-found.was
    (λ p. look_then _ refl (struct_other p _ c.in_ok-top.ensures c.struct_is.ensures c.if-not-struct_is.true))

pub returns-in-Native : goal.returns-in-Native
unfolding step.unpack
returns-in-Native c =
    λ q. struct_given q step.unpack c.in_ok-found.was
    (λ p. look_then _ refl
    (struct_popped p _ c.in_ok-top.ensures c.struct_is.ensures c.if-not-struct_is.false (fields_bad p _ c.in-Native.is)))

pub returns-in-Declared : goal.returns-in-Declared
unfolding step.unpack
returns-in-Declared c =
    λ q. struct_given q step.unpack c.in_ok-found.was
    (λ p. look_then _ refl
    (struct_popped p _ c.in_ok-top.ensures c.struct_is.ensures c.if-not-struct_is.false (unpack_then p c.in-Declared.is c.unpack_fields.ensures)))
