-- The loop's invariant is `InBlock`: what is left of the block, at the height so far, decides it.
use Rattle.unit_tables.specs.Compiled.{compiled}
use Rattle.code_views.specs.Answers.{block_of}
use Rattle.stack_usage_verifier.proofs.Blocks.{InBlock}
use Rattle.stack_usage_verifier.proofs.verify_block.Given as goal

abbrev pub invariant-loop-i : goal.invariant-loop-i
invariant-loop-i l = InBlock (compiled l.unit) (block_of l.fn.block) l.i l.height
