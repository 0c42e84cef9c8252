-- A reference to a vector of the named element is popped, and a u64 pushed.
use Rattle.definitions.specs.TypeSafety as step
use Rattle.signature_token.specs.TokenLaws.{is_u64}
use Rattle.type_stack.specs.Answers.{exit_is}
use Rattle.type_stack.specs.Stepping.{pop_then}
use Rattle.operand_steps.specs.Operands.{push_leaf}
use Rattle.vector_steps.specs.Named.{named_then, named_bad}
use Rattle.vector_steps.proofs.vec_len.Goals as goal

pub returns-in_err-named_element : goal.returns-in_err-named_element
unfolding step.vec_len
returns-in_err-named_element c =
    rw (exit_is c.from_residual-in_err-named_element.ensures.1) (pop_then c.in_ok-top.ensures (λ t h. named_bad c.in_err-named_element.ensures.is h _))

pub returns : goal.returns
unfolding step.vec_len
returns c = pop_then c.in_ok-top.ensures (λ t h. named_then c.in_ok-named_element.ensures.is h _ (λ q. push_leaf c.push_leaf.ensures is_u64))
