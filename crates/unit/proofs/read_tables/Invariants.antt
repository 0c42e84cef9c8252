-- `read_tables`: at each turn the tables so far stand in the index, and where each begins in the bases.
use Rattle.definitions.specs.Commands.{commands_of}
use Rattle.unit.specs.Filled.{head_of}
use Rattle.unit.proofs.TablesLoop.{InTables}
use Rattle.unit.proofs.read_tables.Given as goal

abbrev pub invariant-loop-i : goal.invariant-loop-i
invariant-loop-i l = InTables (commands_of (head_of l.head)) l.s l.initial.index l.index l.bases l.at l.base l.i
