-- `is_leaf`: the answer is whether the type is the leaf of that command.
use Rattle.type_tests.specs.Kinds.{leaf_test, leaf_not}
use Rattle.type_tests.proofs.is_leaf.Goals as goal

pub returns-in-Leaf : goal.returns-in-Leaf
returns-in-Leaf c = leaf_test c.token.ensures.is c.in-Leaf.is

pub returns-in_default : goal.returns-in_default
returns-in_default c = leaf_not c.token.ensures.is (c.in_default.not-Leaf _)
