-- The loop's invariant is `InBlock`: the walk goes on at the instruction of that offset, with the stack that the area holds.
use Rattle.unit_tables.specs.Compiled.{compiled}
use Rattle.code_views.specs.Answers.{block_of}
use Rattle.type_safety.specs.Walks.{InBlock}
use Rattle.type_safety.proofs.verify_block.Given as goal

abbrev pub invariant-loop-offset : goal.invariant-loop-offset
invariant-loop-offset l = InBlock (compiled l.locals.unit) (block_of l.fn.block) l.initial.area l.weight l.area l.below l.offset
