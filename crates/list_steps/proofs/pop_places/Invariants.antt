-- One pop for each turn, of the last place that is left; a refusal ends the loop.
use Rattle.list_steps.specs.Pops.{Popping}
use Rattle.list_steps.proofs.pop_places.Given as goal

abbrev pub invariant-loop-i : goal.invariant-loop-i
invariant-loop-i over l = Popping (over.F.Form.made l.form) l.types.bytes.now l.types.places.now l.status l.area l.weight l.below l.i
