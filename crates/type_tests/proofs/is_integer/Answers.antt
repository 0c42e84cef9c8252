-- The answer is `is_integer` of the type: by its command for a leaf, and false for all others.
use Rattle.type_tests.specs.Kinds.{integer_leaf, integer_low, integer_not}
use Rattle.type_tests.proofs.is_integer.Goals as goal

pub returns-then-command-ge2 : goal.returns-then-command-ge2
returns-then-command-ge2 c = integer_leaf c.token.ensures.is c.in-Leaf.is c.if-command-ge2.true

pub returns-else-command-ge2 : goal.returns-else-command-ge2
returns-else-command-ge2 c = integer_low c.token.ensures.is c.in-Leaf.is c.if-command-ge2.false

pub returns-in_default : goal.returns-in_default
returns-in_default c = integer_not c.token.ensures.is (λ b. c.in_default.not-Leaf b)
