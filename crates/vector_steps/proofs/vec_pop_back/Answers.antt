-- A mutable reference to a vector of the named element is popped, and the element pushed.
use Rattle.definitions.specs.TypeSafety as step
use Rattle.type_stack.specs.Answers.{exit_is}
use Rattle.type_stack.specs.Stepping.{pop_then}
use Rattle.copied_pushes.specs.Standing.{push_declared}
use Rattle.vector_steps.specs.Named.{named_then, named_bad}
use Rattle.vector_steps.proofs.vec_pop_back.Goals as goal

pub returns-in_err-element : goal.returns-in_err-element
unfolding step.vec_pop_back
returns-in_err-element c = rw (exit_is c.from_residual-in_err-element.ensures.1) (pop_then c.in_ok-top.ensures (λ t h. named_bad c.in_err-element.ensures.is h _))

pub returns : goal.returns
unfolding step.vec_pop_back
returns c = pop_then c.in_ok-top.ensures (λ t h. named_then c.in_ok-element.ensures.is h _ (λ q. push_declared q c.encoded.ensures.is c.push_part.ensures))
