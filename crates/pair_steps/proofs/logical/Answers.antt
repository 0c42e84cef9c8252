-- Two bools: what is pushed is the lower of them, which stands there already.
use mathlib.Core.Path.{sym}
use Rattle.definitions.specs.SignatureToken.{Bool'}
use Rattle.definitions.specs.TypeSafety as step
use Rattle.signature_token.specs.TokenLaws.{is_bool}
use Rattle.type_stack.specs.Stepping.{two_then, check_then, check_bad}
use Rattle.operand_steps.specs.Operands.{operand, leaf_type, no_left, no_right, yes_both, push_second}
use Rattle.pair_steps.proofs.logical.Goals as goal

pub returns-then-is_leaf-2 : goal.returns-then-is_leaf-2
unfolding step.logical
returns-then-is_leaf-2 c =
    two_then c.in_ok-operand1.ensures
    (λ t u p q. check_then _ _
    (yes_both (c.is_leaf.ensures (operand p) Bool' is_bool) c.if-is_leaf.true
    (c.is_leaf-then-is_leaf.ensures (operand q) Bool' is_bool) c.if-is_leaf-2.true)
    (push_second c.requires c.in_ok-operand1.ensures q
    (sym (leaf_type q c.is_leaf-then-is_leaf.ensures c.if-is_leaf-2.true is_bool))))

pub returns-else-is_leaf-2 : goal.returns-else-is_leaf-2
unfolding step.logical
returns-else-is_leaf-2 c =
    two_then c.in_ok-operand1.ensures
    (λ t u p q. check_bad _
    (no_right (c.is_leaf.ensures (operand p) Bool' is_bool) c.if-is_leaf.true
    (c.is_leaf-then-is_leaf.ensures (operand q) Bool' is_bool) c.if-is_leaf-2.false))

pub returns-else-is_leaf : goal.returns-else-is_leaf
unfolding step.logical
returns-else-is_leaf c =
    two_then c.in_ok-operand1.ensures
    (λ t u p q. check_bad _ (no_left _ (c.is_leaf.ensures (operand p) Bool' is_bool) c.if-is_leaf.false))
