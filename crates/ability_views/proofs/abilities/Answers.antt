-- `abilities`: those that binary_views finds in the unit's tables.
use Rattle.ability_views.specs.Function.{abilities_here}
use Rattle.ability_views.proofs.abilities.Goals as goal

pub returns : goal.returns
returns c = λ q. abilities_here c.ability_tables.ensures q c.abilities.ensures
