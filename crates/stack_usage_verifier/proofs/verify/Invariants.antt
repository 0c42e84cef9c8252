-- The loop's invariant is `InBlocks`: the blocks that are left decide the unit.
use Rattle.unit_tables.specs.Compiled.{compiled}
use Rattle.stack_usage_verifier.proofs.Blocks.{InBlocks}
use Rattle.stack_usage_verifier.proofs.verify.Given as goal

abbrev pub invariant-loop-block_id : goal.invariant-loop-block_id
invariant-loop-block_id l = InBlocks (compiled l.unit) l.block_id
