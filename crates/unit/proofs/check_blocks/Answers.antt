use Rattle.std.proofs.Common.{arith}
use Rattle.unit.proofs.Blocks.{block_here, tested_falls, tested_past, tested_more, tested_all, judged_stop, judged_read}
use Rattle.unit.proofs.check_blocks.Goals as goal
use Rattle.unit.proofs.check_blocks.Goals.{then-last-first-via-then-last-first, then-last-first-via-else-last-first+then-code-last}

pub number_at-first-requires : goal.number_at-first-requires
number_at-first-requires c = omega (arith, (block_here c.requires c.loop-place-test.true c.from-p.ensures).within)

pub number_at-last-requires : goal.number_at-last-requires
number_at-last-requires c = omega (arith, (block_here c.requires c.loop-place-test.true c.from-p.ensures).within)

pub returns-then-last-first : goal.returns-then-last-first
returns-then-last-first c =
    λ b at. elim c.then-last-first.branch [
      | then-last-first-via-then-last-first w ↦
          judged_stop (tested_falls _ _ c.loop-place.invariant c.loop-place-test.true c.from-p.ensures b at (omega (arith, w.if-last-first.true, c.number_at-first.ensures, c.number_at-last.ensures)))
      | then-last-first-via-else-last-first+then-code-last w ↦
          judged_stop (tested_past _ _ c.loop-place.invariant c.loop-place-test.true c.from-p.ensures b at (omega (arith, w.if-last-first.false, c.number_at-first.ensures, c.number_at-last.ensures)) (omega (arith, w.if-code-last.true, c.number_at-last.ensures)))
    ]

pub loop-place-preserved : goal.loop-place-preserved
loop-place-preserved c =
    λ b at. tested_more _ _ c.loop-place.invariant c.loop-place-test.true c.from-p.ensures b at
    (omega (arith, c.number_at-first.ensures, c.number_at-last.ensures)) (omega (arith, c.number_at-last.ensures))

pub returns : goal.returns
returns c = λ b at. judged_read (tested_all _ _ c.loop-place.invariant c.loop-place-test.false b at)
