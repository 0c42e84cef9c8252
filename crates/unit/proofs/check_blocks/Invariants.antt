-- `check_blocks`: each block before the one at this place lies within the code, and the first that does not is the one that is named.
use Rattle.unit.proofs.Blocks.{Tested}
use Rattle.unit.proofs.check_blocks.Given as goal

abbrev pub invariant-loop-place : goal.invariant-loop-place
invariant-loop-place l = Tested l.s l.places l.code l.place-index
