-- An operand that must be a leaf: the popped type is that leaf, or another.
use mathlib.Core.Path.{sym, ◌∙◌}
use Rattle.definitions.specs.TypeSafety.{pop_expecting}
use Rattle.type_stack.specs.Stepping.{pop_then, check_last, check_last_bad}
use Rattle.operand_steps.specs.Operands.{operand}
use Rattle.operand_steps.proofs.pop_leaf.Goals as goal

pub returns-then-is_leaf : goal.returns-then-is_leaf
unfolding pop_expecting
returns-then-is_leaf c = record { steps = λ t i. pop_then c.in_ok-top.ensures (λ u p. check_last _ (sym (c.is_leaf.ensures (operand p) t i) ∙ c.if-is_leaf.true)) }

pub returns : goal.returns
unfolding pop_expecting
returns c = record { steps = λ t i. pop_then c.in_ok-top.ensures (λ u p. check_last_bad (sym (c.is_leaf.ensures (operand p) t i) ∙ c.if-is_leaf.false)) }
