use native.Mathlib.Omega.{arith}
use Rattle.unit_tables.specs.Answers.{told_exit}
use Rattle.stack_usage_verifier.proofs.Blocks.{block_start, effect_refused, height_refused, block_next, block_high}
use Rattle.stack_usage_verifier.proofs.verify_block.Goals as goal

pub loop-i-init : goal.loop-i-init
loop-i-init c = block_start c.from-i.ensures

pub returns-in_err-pops : goal.returns-in_err-pops
returns-in_err-pops c = told_exit _ _ c.from_residual.ensures.1 (effect_refused c.loop-i.invariant (omega arith) c.in_err-pops.ensures)

pub returns-in_err-height : goal.returns-in_err-height
returns-in_err-height c =
    told_exit _ _ c.from_residual-in_err-height.ensures.1
    (height_refused c.loop-i.invariant (omega arith) c.in_ok-pops.ensures c.in_err-height.ensures)

pub loop-i-preserved : goal.loop-i-preserved
loop-i-preserved c = block_next c.loop-i.invariant (omega arith) c.in_ok-pops.ensures c.in_ok-height.ensures

pub returns-else-height-eq0 : goal.returns-else-height-eq0
returns-else-height-eq0 c = block_high c.loop-i.invariant (omega arith) (omega arith)
