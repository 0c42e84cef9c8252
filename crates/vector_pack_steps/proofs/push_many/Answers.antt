-- Each turn writes one entry more, for which the room was tested.
use Rattle.vector_pack_steps.specs.Many.{writing_start, writing_next}
use Rattle.vector_pack_steps.proofs.push_many.Goals as goal

pub loop-i-init : goal.loop-i-init
loop-i-init c = writing_start _ c.requires.stacked (rw c.wide64-fit.ensures at c.if-fit-num.false)

pub loop-i-preserved : goal.loop-i-preserved
loop-i-preserved c = writing_next c.loop-i.invariant c.loop-i-test.true c.write_part-end.ensures.0 c.write_part-end.ensures.1
