-- The stack is empty, or its top is compared, and the answer is that of the comparison.
use Rattle.definitions.specs.Machine.{pop_one}
use Rattle.type_stack.specs.Answers.{exit_is}
use Rattle.type_stack.specs.Stepping.{pop_none}
use Rattle.operand_steps.specs.Operands.{top_span}
use Rattle.list_steps.specs.Pops.{pop_compared}
use Rattle.list_steps.proofs.pop_one.Goals as goal

pub returns-in_err-top : goal.returns-in_err-top
unfolding pop_one
returns-in_err-top over c = λ p. rw (exit_is c.from_residual.ensures.1) (pop_none c.in_err-top.ensures _)

pub compare-requires : goal.compare-requires
compare-requires over c = top_span c.requires c.in_ok-top.ensures

pub returns : goal.returns
returns over c = λ p. pop_compared c.in_ok-top.ensures (rw c.if-branch.false at c.in_ok-compare.ensures) _ p

pub returns-then-branch : goal.returns-then-branch
unfolding pop_one
returns-then-branch over c = λ p. pop_compared c.in_ok-top.ensures (rw c.if-branch.true at c.in_ok-compare.ensures) _ p

pub returns-in_err-compare : goal.returns-in_err-compare
unfolding pop_one
returns-in_err-compare over c =
    λ p. rw (exit_is c.from_residual-in_err-compare.ensures.1) (pop_compared c.in_ok-top.ensures c.in_err-compare.ensures _ p)
