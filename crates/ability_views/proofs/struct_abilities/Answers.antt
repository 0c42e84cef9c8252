-- `struct_abilities`: those that binary_views finds in the unit's tables.
use Rattle.ability_views.specs.Function.{struct_abilities_here}
use Rattle.ability_views.proofs.struct_abilities.Goals as goal

pub returns : goal.returns
returns c = λ q. struct_abilities_here c.ability_tables.ensures q c.materialized_abilities.ensures
