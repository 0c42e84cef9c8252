-- The struct was found and has key, and both operands are popped: the upper one is compared with the struct, the lower one with `&signer`.
use mathlib.Core.Path.{sym, ◌∙◌}
use Rattle.definitions.specs.TypeSafety as step
use Rattle.type_stack.specs.Answers.{exit_is}
use Rattle.type_stack.specs.Stepping.{two_none, two_then, check_then, check_bad, check_last, check_last_bad}
use Rattle.operand_steps.specs.Operands.{operand}
use Rattle.resource_steps.specs.Resources.{none_found, key_then, key_bad, struct_same}
use Rattle.resource_steps.proofs.move_to.Goals as goal

pub returns-in_err-found : goal.returns-in_err-found
unfolding step.move_to
returns-in_err-found c = λ q. rw (exit_is c.from_residual.ensures.1) (none_found q _ c.in_err-found.was)

pub returns-in_err-needs_key : goal.returns-in_err-needs_key
unfolding step.move_to
returns-in_err-needs_key c =
    λ q. rw (exit_is c.from_residual-in_err-needs_key.ensures.1) (key_bad q c.in_ok-found.was _ c.in_err-needs_key.ensures)

pub returns-in_err-top : goal.returns-in_err-top
unfolding step.move_to
returns-in_err-top c =
    λ q. rw (exit_is c.from_residual-in_err-top.ensures.1)
    (key_then q c.in_ok-found.was _ c.in_ok-needs_key.ensures (λ p. two_none c.in_err-top.ensures _))

pub returns-then-is_signer_reference : goal.returns-then-is_signer_reference
unfolding step.move_to
returns-then-is_signer_reference c =
    λ q. key_then q c.in_ok-found.was _ c.in_ok-needs_key.ensures
    (λ p. two_then c.in_ok-top.ensures
    (λ t u h g. check_then _ _ (struct_same p c.struct_is.ensures h c.if-struct_is.true)
    (check_last _ (sym (c.is_signer_reference.ensures.is (operand g)) ∙ c.if-is_signer_reference.true))))

pub returns-else-is_signer_reference : goal.returns-else-is_signer_reference
unfolding step.move_to
returns-else-is_signer_reference c =
    λ q. key_then q c.in_ok-found.was _ c.in_ok-needs_key.ensures
    (λ p. two_then c.in_ok-top.ensures
    (λ t u h g. check_then _ _ (struct_same p c.struct_is.ensures h c.if-struct_is.true)
    (check_last_bad (sym (c.is_signer_reference.ensures.is (operand g)) ∙ c.if-is_signer_reference.false))))

pub returns-else-struct_is : goal.returns-else-struct_is
unfolding step.move_to
returns-else-struct_is c =
    λ q. key_then q c.in_ok-found.was _ c.in_ok-needs_key.ensures
    (λ p. two_then c.in_ok-top.ensures (λ t u h g. check_bad _ (struct_same p c.struct_is.ensures h c.if-struct_is.false)))
