-- `struct_def_at`: the definition that stands at the record's place.
use Rattle.unit_views.specs.Lookups.{def_here}
use Rattle.unit_views.proofs.struct_def_at.Goals as goal

pub returns-clause-value : goal.returns-clause-value
returns-clause-value c = def_here _ _ c.in_ok-p.ensures.value c.in_ok-in_module.ensures c.struct_def_at.ensures.is
