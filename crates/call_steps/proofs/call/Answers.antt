-- The parameters' signature is looked up before the pops, the returns' after them; what is left are the pops and the pushes of a list.
use Rattle.std.specs.Prelude.{refl}
use Rattle.definitions.specs.TypeSafety as step
use Rattle.type_stack.specs.Answers.{exit_is}
use Rattle.type_stack.specs.Stepping.{and_then, and_bad, and_stacked}
use Rattle.step_views.specs.Looked.{looked_bad, types_then}
use Rattle.record_views.specs.Reread.{types_in}
use Rattle.call_steps.proofs.call.Goals as goal

pub push_each-pushed-requires : goal.push_each-pushed-requires
push_each-pushed-requires c =
    and_stacked (c.in_ok-below.ensures.steps (types_in _)) c.requires refl refl

pub returns-in_err-parameters : goal.returns-in_err-parameters
unfolding step.call
returns-in_err-parameters c = rw (exit_is c.from_residual.ensures.1) (looked_bad _ c.in_err-parameters.ensures.value)

pub returns-in_err-below : goal.returns-in_err-below
unfolding step.call
returns-in_err-below c =
    rw (exit_is c.from_residual-in_err-below.ensures.1)
    (types_then _ c.in_ok-parameters.ensures.value (λ ts. and_bad (c.in_err-below.ensures.steps ts) _ refl))

pub returns-in_err-returns : goal.returns-in_err-returns
unfolding step.call
returns-in_err-returns c =
    rw (exit_is c.from_residual-in_err-returns.ensures.1)
    (types_then _ c.in_ok-parameters.ensures.value (λ ts. and_then (c.in_ok-below.ensures.steps ts) _ refl (looked_bad _ c.in_err-returns.ensures.value)))

pub returns : goal.returns
unfolding step.call
returns c =
    rw c.rebuilt.ensures
    (types_then _ c.in_ok-parameters.ensures.value
    (λ ts. and_then (c.in_ok-below.ensures.steps ts) _ refl
    (types_then _ c.in_ok-returns.ensures.value (λ us. c.push_each-pushed.ensures.steps us c.args.args.stand))))
