-- A bool is popped and pushed: it stands there already.
use mathlib.Core.Path.{sym, ◌∙◌}
use Rattle.definitions.specs.SignatureToken.{Bool'}
use Rattle.definitions.specs.TypeSafety as step
use Rattle.signature_token.specs.TokenLaws.{is_bool}
use Rattle.type_stack.specs.Answers.{exit_is}
use Rattle.type_stack.specs.Stepping.{nested, pop_none, pop_then, check_then, check_bad}
use Rattle.operand_steps.specs.Operands.{operand, leaf_type, push_top}
use Rattle.operand_steps.proofs.negation.Goals as goal

pub returns-in_err-top : goal.returns-in_err-top
unfolding step.negation step.pop_expecting
returns-in_err-top c = rw (exit_is c.from_residual.ensures.1) (nested _ _ _ (pop_none c.in_err-top.ensures _))

pub returns-then-is_leaf : goal.returns-then-is_leaf
unfolding step.negation step.pop_expecting
returns-then-is_leaf c =
    nested _ _ _
    (pop_then c.in_ok-top.ensures
    (λ t p. check_then _ _ (sym (c.is_leaf.ensures (operand p) Bool' is_bool) ∙ c.if-is_leaf.true)
    (push_top c.requires c.in_ok-top.ensures p (sym (leaf_type p c.is_leaf.ensures c.if-is_leaf.true is_bool)))))

pub returns : goal.returns
unfolding step.negation step.pop_expecting
returns c =
    nested _ _ _ (pop_then c.in_ok-top.ensures (λ t p. check_bad _ (sym (c.is_leaf.ensures (operand p) Bool' is_bool) ∙ c.if-is_leaf.false)))
