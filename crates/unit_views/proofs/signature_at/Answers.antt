-- `signature_at`: the list that stands at the record's place.
use Rattle.unit_views.specs.Lookups.{signature_here}
use Rattle.unit_views.proofs.signature_at.Goals as goal

pub returns-clause-value : goal.returns-clause-value
returns-clause-value c = signature_here _ _ c.in_ok-p.ensures.value c.signature_at.ensures.are
