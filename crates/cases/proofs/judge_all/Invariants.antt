-- `judge_all`: each case takes some of the bytes that are left.
use Rattle.std.proofs.Common.{length}
use Rattle.cases.proofs.judge_all.Given as goal

abbrev pub decreases-loop-rest : goal.decreases-loop-rest
decreases-loop-rest g l = length l.rest
