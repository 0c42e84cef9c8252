-- Two u64 and a mutable reference to a vector are popped. The indexes are tested before the look-up.
use Rattle.definitions.specs.TypeSafety as step
use Rattle.definitions.specs.SignatureToken.{U64}
use Rattle.signature_token.specs.TokenLaws.{is_u64}
use Rattle.type_stack.specs.Answers.{exit_is}
use Rattle.type_stack.specs.Stepping.{two_then, pop_none, pop_then, check_then, check_bad}
use Rattle.operand_steps.specs.Operands.{operand, no_left, no_right, yes_both}
use Rattle.vector_steps.specs.Named.{named_last, named_last_bad}
use Rattle.vector_steps.proofs.vec_swap.Goals as goal

pub returns-in_err-vector : goal.returns-in_err-vector
unfolding step.vec_swap
returns-in_err-vector c = rw (exit_is c.from_residual-in_err-vector.ensures.1) (two_then c.in_ok-top.ensures (λ t u h g. pop_none c.in_err-vector.ensures _))

pub returns-in_err-named_element : goal.returns-in_err-named_element
unfolding step.vec_swap
returns-in_err-named_element c =
    rw (exit_is c.from_residual-in_err-named_element.ensures.1)
    (two_then c.in_ok-top.ensures
    (λ t u h g. pop_then c.in_ok-vector.ensures
    (λ v k. check_then _ _
    (yes_both (c.is_leaf.ensures (operand g) U64 is_u64) c.if-is_leaf.true
    (c.is_leaf-then-is_leaf.ensures (operand h) U64 is_u64) c.if-is_leaf-2.true)
    (named_last_bad c.in_err-named_element.ensures.is k))))

pub returns-then-is_leaf-2 : goal.returns-then-is_leaf-2
unfolding step.vec_swap
returns-then-is_leaf-2 c =
    two_then c.in_ok-top.ensures
    (λ t u h g. pop_then c.in_ok-vector.ensures
    (λ v k. check_then _ _
    (yes_both (c.is_leaf.ensures (operand g) U64 is_u64) c.if-is_leaf.true
    (c.is_leaf-then-is_leaf.ensures (operand h) U64 is_u64) c.if-is_leaf-2.true)
    (named_last c.in_ok-named_element.ensures.is k)))

pub returns-else-is_leaf-2 : goal.returns-else-is_leaf-2
unfolding step.vec_swap
returns-else-is_leaf-2 c =
    two_then c.in_ok-top.ensures
    (λ t u h g. pop_then c.in_ok-vector.ensures
    (λ v k. check_bad _
    (no_right (c.is_leaf.ensures (operand g) U64 is_u64) c.if-is_leaf.true
    (c.is_leaf-then-is_leaf.ensures (operand h) U64 is_u64) c.if-is_leaf-2.false)))

pub returns-else-is_leaf : goal.returns-else-is_leaf
unfolding step.vec_swap
returns-else-is_leaf c =
    two_then c.in_ok-top.ensures
    (λ t u h g. pop_then c.in_ok-vector.ensures
    (λ v k. check_bad _ (no_left _ (c.is_leaf.ensures (operand g) U64 is_u64) c.if-is_leaf.false)))
