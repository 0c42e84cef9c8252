-- The element and the mutable reference to a vector of it are popped; the look-up is done between the pops and the comparisons.
use Rattle.definitions.specs.TypeSafety as step
use Rattle.type_stack.specs.Answers.{exit_is}
use Rattle.type_stack.specs.Stepping.{two_then, check_then, check_bad}
use Rattle.step_views.specs.Looked.{type_then, looked_bad}
use Rattle.vector_elements.specs.Found.{same_turned}
use Rattle.vector_elements.specs.Elements.{element_last, element_last_bad}
use Rattle.vector_steps.proofs.vec_push_back.Goals as goal

pub returns-in_err-declared : goal.returns-in_err-declared
unfolding step.vec_push_back
returns-in_err-declared c = rw (exit_is c.from_residual-in_err-declared.ensures.1) (two_then c.in_ok-top.ensures (λ t u h g. looked_bad _ c.in_err-declared.ensures.value))

pub returns-then-element_is : goal.returns-then-element_is
unfolding step.vec_push_back
returns-then-element_is c =
    two_then c.in_ok-top.ensures
    (λ t u h g. type_then _ c.in_ok-declared.ensures.value
    (λ q. check_then _ _ (same_turned c.same_type.ensures h q c.if-same_type.true) (element_last c.element_is.ensures g q c.if-element_is.true)))

pub returns-else-element_is : goal.returns-else-element_is
unfolding step.vec_push_back
returns-else-element_is c =
    two_then c.in_ok-top.ensures
    (λ t u h g. type_then _ c.in_ok-declared.ensures.value
    (λ q. check_then _ _ (same_turned c.same_type.ensures h q c.if-same_type.true) (element_last_bad c.element_is.ensures g q c.if-element_is.false)))

pub returns-else-same_type : goal.returns-else-same_type
unfolding step.vec_push_back
returns-else-same_type c =
    two_then c.in_ok-top.ensures
    (λ t u h g. type_then _ c.in_ok-declared.ensures.value (λ q. check_bad _ (same_turned c.same_type.ensures h q c.if-same_type.false)))
