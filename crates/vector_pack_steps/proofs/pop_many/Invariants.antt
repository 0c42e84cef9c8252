-- One pop for each turn; a stack that is empty before the last ends the loop.
use Rattle.vector_pack_steps.specs.Many.{Popping}
use Rattle.vector_pack_steps.proofs.pop_many.Given as goal

abbrev pub invariant-loop-i : goal.invariant-loop-i
invariant-loop-i l = Popping l.area l.weight l.num l.below l._i
