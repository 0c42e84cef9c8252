-- What `type_places` wrote are the places of the list's types.
use Rattle.type_places.specs.Places.{placed_arguments}
use Rattle.type_places.proofs.placed.Goals as goal

pub invariant_of-result : goal.invariant_of-result
invariant_of-result c = record { stand = placed_arguments c.type_places.ensures c.args.types.stand }
