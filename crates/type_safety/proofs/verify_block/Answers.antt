-- `verify_block`: the laws of a walk along a block's instructions.
use native.Mathlib.Omega.{arith}
use Rattle.type_safety.specs.Walks.{in_block_start, in_block_next, in_block_end}
use Rattle.type_safety.proofs.verify_block.Goals as goal

pub loop-offset-init : goal.loop-offset-init
loop-offset-init c = rw c.from-offset.ensures (in_block_start _ _ c.requires.stacked)

pub loop-offset-preserved : goal.loop-offset-preserved
loop-offset-preserved c = in_block_next c.loop-offset.invariant (omega arith) (omega arith) c.in-Ok.ensures

pub returns : goal.returns
returns c = in_block_end c.loop-offset.invariant (omega arith)
