-- The look-up was refused, the struct is native, or its fields are packed.
use Rattle.std.specs.Prelude.{refl}
use Rattle.definitions.specs.TypeSafety as step
use Rattle.type_stack.specs.Answers.{exit_is}
use Rattle.type_stack.specs.Stepping.{look_then, look_bad}
use Rattle.step_views.specs.Looked.{struct_given, struct_refused}
use Rattle.struct_steps.specs.Packing.{fields_bad, pack_then}
use Rattle.struct_steps.proofs.pack.Goals as goal

pub returns-in_err-found : goal.returns-in_err-found
unfolding step.pack
returns-in_err-found c = λ q. rw (exit_is c.from_residual.ensures.1) (look_bad _ (struct_refused q c.in_err-found.was))

pub returns-in-Native : goal.returns-in-Native
unfolding step.pack
returns-in-Native c = λ q. struct_given q step.pack c.in_ok-found.was (λ p. look_then _ refl (fields_bad p _ c.in-Native.is))

pub returns-in-Declared : goal.returns-in-Declared
unfolding step.pack
returns-in-Declared c = λ q. struct_given q step.pack c.in_ok-found.was (λ p. look_then _ refl (pack_then p c.in-Declared.is c.pack_fields.ensures))
