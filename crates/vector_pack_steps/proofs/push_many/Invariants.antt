-- The room is tested by one division. Then each turn writes an entry, for which there is still room.
use Rattle.vector_pack_steps.specs.Many.{Writing}
use Rattle.vector_pack_steps.proofs.push_many.Given as goal

abbrev pub invariant-loop-i : goal.invariant-loop-i
invariant-loop-i l = Writing l.bytes l.initial.area l.weight l.num l.area l.end l._i
