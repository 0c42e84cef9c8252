-- Each turn writes the entry of a type, which is made and has room.
use Rattle.list_steps.specs.Pushes.{Writing}
use Rattle.list_steps.proofs.write_each.Given as goal

abbrev pub invariant-loop : goal.invariant-loop
invariant-loop l = Writing l.initial.area l.weight l.fn.list l.args.bytes.now l.args.places.now l.area l.after l.at l.counter
