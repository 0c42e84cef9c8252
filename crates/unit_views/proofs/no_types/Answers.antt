-- `no_types`: a count of 0.
use Rattle.std.specs.Prelude.{refl}
use Rattle.unit_views.specs.Lookups.{nothing_listed}
use Rattle.unit_views.proofs.no_types.Goals as goal

pub returns-clause-are : goal.returns-clause-are
returns-clause-are c = nothing_listed refl
