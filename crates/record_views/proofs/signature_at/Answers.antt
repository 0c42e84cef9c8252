-- `signature_at`: the list that was read there stands at the place that `type_list` tells.
use Rattle.record_views.specs.Reread.{list_within, list_stands}
use Rattle.record_views.proofs.signature_at.Goals as goal

pub type_list-first-requires : goal.type_list-first-requires
type_list-first-requires c = list_within c.requires

pub invariant_of-result : goal.invariant_of-result
invariant_of-result c = record { stand = list_stands c.requires c.type_list-first.ensures }
