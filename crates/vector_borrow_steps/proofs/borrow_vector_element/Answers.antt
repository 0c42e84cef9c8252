-- A u64 and a reference to a vector of the named element are popped, and a reference to the element pushed.
use mathlib.Core.Path.{sym, ◌∙◌}
use Rattle.definitions.specs.SignatureToken.{U64}
use Rattle.definitions.specs.TypeSafety as step
use Rattle.signature_token.specs.TokenLaws.{is_u64}
use Rattle.type_stack.specs.Answers.{exit_is}
use Rattle.type_stack.specs.Stepping.{two_none, two_then, check_then, check_bad}
use Rattle.operand_steps.specs.Operands.{operand}
use Rattle.copied_pushes.specs.Standing.{push_reference}
use Rattle.step_views.specs.Looked.{type_then}
use Rattle.vector_elements.specs.Elements.{element_then, element_bad}
use Rattle.vector_borrow_steps.proofs.borrow_vector_element.Goals as goal

pub returns-in_err-top : goal.returns-in_err-top
unfolding step.borrow_vector_element
returns-in_err-top c = rw (exit_is c.from_residual-in_err-top.ensures.1) (type_then _ c.in_ok-declared.ensures.value (λ q. two_none c.in_err-top.ensures _))

pub returns-then-element_is : goal.returns-then-element_is
unfolding step.borrow_vector_element
returns-then-element_is c =
    type_then _ c.in_ok-declared.ensures.value
    (λ q. two_then c.in_ok-top.ensures
    (λ t u h g. check_then _ _ (sym (c.is_leaf.ensures (operand h) U64 is_u64) ∙ c.if-is_leaf.true)
    (element_then c.element_is.ensures g q _ c.if-element_is.true
    (push_reference q c.encoded-bytes.ensures.is c.reference_command-command.ensures c.push_wrapped.ensures))))

pub returns-else-element_is : goal.returns-else-element_is
unfolding step.borrow_vector_element
returns-else-element_is c =
    type_then _ c.in_ok-declared.ensures.value
    (λ q. two_then c.in_ok-top.ensures
    (λ t u h g. check_then _ _ (sym (c.is_leaf.ensures (operand h) U64 is_u64) ∙ c.if-is_leaf.true)
    (element_bad c.element_is.ensures g q _ c.if-element_is.false)))

pub returns-else-is_leaf : goal.returns-else-is_leaf
unfolding step.borrow_vector_element
returns-else-is_leaf c =
    type_then _ c.in_ok-declared.ensures.value
    (λ q. two_then c.in_ok-top.ensures
    (λ t u h g. check_bad _ (sym (c.is_leaf.ensures (operand h) U64 is_u64) ∙ c.if-is_leaf.false)))
