-- No signature is the refusal of the look-up.
use Rattle.type_stack.specs.Answers.{exit_is}
use Rattle.vector_steps.specs.Named.{named_none}
use Rattle.vector_steps.proofs.named_element.Goals as goal

pub returns-in_err-declared-clause-is : goal.returns-in_err-declared-clause-is
returns-in_err-declared-clause-is c = rw (exit_is c.from_residual.ensures.1) (named_none _ _ c.in_err-declared.ensures.value)
