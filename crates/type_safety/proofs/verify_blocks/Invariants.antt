-- The loop's invariant is `InBlocks`: the walk goes on at the block of that number, with the stack that the area holds; and `CleanSoFar` where
-- the walk is said to be clean.
use mathlib.Core.Path.{◌≡◌}
use mathlib.Core.Bool.{true}
use lib.ListN.{length}
use Rattle.unit_tables.specs.Compiled.{compiled}
use Rattle.type_safety.specs.Walks.{InBlocks, CleanSoFar}
use Rattle.type_safety.proofs.verify_blocks.Given as goal

abbrev pub invariant-loop-block_id : goal.invariant-loop-block_id
invariant-loop-block_id l =
    InBlocks (compiled l.locals.unit) l.initial.area l.area l.weight l.block_id ×
    (l.clean ≡ true → CleanSoFar (compiled l.locals.unit) (length l.initial.area) l.weight l.block_id)
