-- The places of the types that stand there are written in order, and the answer is where the last one ends.
use Rattle.type_places.specs.Places.{Placing}
use Rattle.type_places.proofs.type_places.Given as goal

abbrev pub invariant-loop-i : goal.invariant-loop-i
invariant-loop-i l = Placing l.bytes l.fn.types.at l.fn.types.count l.initial.out l.out l.at l.i
