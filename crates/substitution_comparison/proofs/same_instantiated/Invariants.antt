-- At each turn the bytes up to e are matched, and what is left of the type gives the others.
use Prim.Native.Nat.{◌-◌}
use lib.ListN.{length}
use Rattle.substitution_comparison.specs.Matching.{Agreed}
use Rattle.substitution_comparison.proofs.same_instantiated.Given as goal

abbrev pub invariant-loop-left : goal.invariant-loop-left
invariant-loop-left l = Agreed l.found.bytes.now l.found.at l.bytes l.fn.ty.at l.args.bytes.now l.args.places.now l.e l.at l.left

abbrev pub decreases-loop-left : goal.decreases-loop-left
decreases-loop-left l = length l.bytes - l.at
