-- The places of the list's types are found, and an operand popped for each.
use Rattle.list_steps.specs.Made.{arguments_of}
use Rattle.list_steps.proofs.pop_with.Goals as goal

pub returns : goal.returns
returns over c = record { steps = λ p. c.pop_places.ensures (arguments_of p c.placed-placed.ensures) }
