-- `read_table`: at each turn the places of the records so far stand in the index.
use Prim.Native.Nat.{◌-◌}
use lib.ListN.{length}
use Rattle.definitions.specs.CompiledUnit as defs
use Rattle.definitions.specs.Commands.{commands_of}
use Rattle.record_reader.specs.Bodies.{body_of}
use Rattle.unit.proofs.TableLoop.{InTable}
use Rattle.unit.proofs.read_table.Given as goal

abbrev pub invariant-loop-at : goal.invariant-loop-at
invariant-loop-at l = (h : defs.Head) → InTable (body_of (commands_of h) l.command) l.s l.command l.from l.base l.initial.index l.index l.at l.n

abbrev pub decreases-loop-at : goal.decreases-loop-at
decreases-loop-at l = length l.s - l.n
