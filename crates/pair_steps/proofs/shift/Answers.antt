-- An integer below a u8: what is pushed is the integer, which stands there already.
use mathlib.Core.Path.{refl}
use Rattle.definitions.specs.SignatureToken.{U8}
use Rattle.definitions.specs.TypeSafety as step
use Rattle.signature_token.specs.TokenLaws.{is_u8}
use Rattle.type_stack.specs.Stepping.{two_then, check_then, check_bad}
use Rattle.operand_steps.specs.Operands.{operand, no_left, no_right, yes_both, push_second}
use Rattle.pair_steps.proofs.shift.Goals as goal

pub returns-then-is_leaf : goal.returns-then-is_leaf
unfolding step.shift
returns-then-is_leaf c =
    two_then c.in_ok-operand1.ensures
    (λ t u p q. check_then _ _
    (yes_both (c.is_integer.ensures (operand q)) c.if-is_integer.true
    (c.is_leaf.ensures (operand p) U8 is_u8) c.if-is_leaf.true)
    (push_second c.requires c.in_ok-operand1.ensures q refl))

pub returns-else-is_leaf : goal.returns-else-is_leaf
unfolding step.shift
returns-else-is_leaf c =
    two_then c.in_ok-operand1.ensures
    (λ t u p q. check_bad _
    (no_right (c.is_integer.ensures (operand q)) c.if-is_integer.true
    (c.is_leaf.ensures (operand p) U8 is_u8) c.if-is_leaf.false))

pub returns-else-is_integer : goal.returns-else-is_integer
unfolding step.shift
returns-else-is_integer c =
    two_then c.in_ok-operand1.ensures
    (λ t u p q. check_bad _ (no_left _ (c.is_integer.ensures (operand q)) c.if-is_integer.false))
