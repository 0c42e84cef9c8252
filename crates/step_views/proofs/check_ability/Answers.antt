-- `check_ability`: a leaf is asked by its command.
use Rattle.signature_token.specs.TokenLaws.{leaf_at}
use Rattle.step_views.specs.Checks.{leaf_asked}
use Rattle.step_views.proofs.check_ability.Goals as goal

pub returns-in-Leaf : goal.returns-in-Leaf
returns-in-Leaf c = λ q. leaf_asked (leaf_at c.token.ensures.is q c.in-Leaf.is) c.leaf_abilities.ensures c.check_set.ensures
