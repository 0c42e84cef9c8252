-- At each turn some types are left, which end where the types at `at` do: the type at hand is passed, or what is inside it takes its place.
use Prim.Native.Nat.{◌-◌}
use lib.ListN.{length}
use Rattle.signature_token.specs.Passing.{Passing}
use Rattle.signature_token.proofs.TypeList.end.Given as goal

abbrev pub invariant-loop-left : goal.invariant-loop-left
invariant-loop-left l = Passing l.self.bytes.now l.fn.self.at l.fn.self.count l.p l.left

abbrev pub decreases-loop-left : goal.decreases-loop-left
decreases-loop-left l = length l.s - l.p
