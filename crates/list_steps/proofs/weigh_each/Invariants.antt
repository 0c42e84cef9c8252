-- Each turn adds the size of an entry, until one has no room or there is no such type.
use Rattle.list_steps.specs.Pushes.{Weighing}
use Rattle.list_steps.proofs.weigh_each.Given as goal

abbrev pub invariant-loop : goal.invariant-loop
invariant-loop l = Weighing l.room l.weight l.fn.list l.args.bytes.now l.args.places.now l.after l.at l.counter
