-- The look-up, the pops, and then the push of a vector.
use mathlib.Core.Path.{refl}
use Rattle.definitions.specs.TypeSafety as step
use Rattle.type_stack.specs.Answers.{exit_is}
use Rattle.type_stack.specs.Stepping.{and_then, and_bad, and_stacked}
use Rattle.step_views.specs.Looked.{type_then}
use Rattle.vector_elements.specs.Found.{push_vector}
use Rattle.vector_pack_steps.proofs.vec_pack.Goals as goal

pub returns-in_err-below : goal.returns-in_err-below
unfolding step.vec_pack
returns-in_err-below c =
    rw (exit_is c.from_residual-in_err-below.ensures.1) (type_then _ c.in_ok-element.ensures.value (λ q. and_bad c.in_err-below.ensures _ refl))

pub push_wrapped-requires-clause-stacked : goal.push_wrapped-requires-clause-stacked
push_wrapped-requires-clause-stacked c = and_stacked c.in_ok-below.ensures c.requires refl refl

pub returns : goal.returns
unfolding step.vec_pack
returns c =
    type_then _ c.in_ok-element.ensures.value
    (λ q. and_then c.in_ok-below.ensures _ refl (push_vector q c.encoded.ensures.is c.push_wrapped.ensures))
