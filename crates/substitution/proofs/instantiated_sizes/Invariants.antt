-- At each turn some types are left, and the answer for them after the bytes that are counted is the answer for all: the type at hand is counted, or
-- what is inside it takes its place.
use Prim.Native.Nat.{◌-◌}
use lib.ListN.{length}
use Rattle.substitution.specs.Counting.{Counted}
use Rattle.substitution.proofs.instantiated_sizes.Given as goal

abbrev pub invariant-loop-left : goal.invariant-loop-left
invariant-loop-left l = Counted l.bytes l.fn.types.at l.fn.types.count l.args.bytes.now l.args.places.now l.at l.left l.len

abbrev pub decreases-loop-left : goal.decreases-loop-left
decreases-loop-left l = length l.bytes - l.at
