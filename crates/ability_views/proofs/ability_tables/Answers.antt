-- `ability_tables`: the handles are the front of the index, and the constraints a part of the function's record.
use Rattle.std.proofs.Common.{sym, refl, arith, length-take-le}
use Rattle.std.proofs.lemmas.Grind.{merely}
use Rattle.ability_views.specs.Function.{handles_room, handles_stand, context_here}
use Rattle.ability_views.proofs.ability_tables.Goals as goal

pub slice_bounds-result-end : goal.slice_bounds-result-end
slice_bounds-result-end c = sym (length-take-le _ _ (omega (arith, handles_room c.args.unit.now)))

pub invariant_of-result : goal.invariant_of-result
invariant_of-result c = record { handles_at = rw c.from-handles.ensures (merely (handles_stand c.args.unit.now)) }

pub returns : goal.returns
returns c = context_here c.args.unit.now refl c.from-handles.ensures c.from.ensures refl refl
