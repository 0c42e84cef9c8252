-- `read_code`: at each turn the places of the instructions so far stand in the index.
use Rattle.definitions.specs.CompiledUnit as defs
use Rattle.definitions.specs.Commands.{commands_of}
use Rattle.definitions.specs.Reader.{instruction}
use Rattle.unit.proofs.CodeLoop.{InCode}
use Rattle.unit.proofs.read_code.Given as goal

abbrev pub invariant-loop-n : goal.invariant-loop-n
invariant-loop-n l = (h : defs.Head) → InCode (instruction (commands_of h)) l.s l.from l.base l.count l.initial.index l.index l.at l.n
