-- `nesting_of_type` and `nesting_of_types`, which call each other: each answers how many levels the deepest type that stands there nests. The
-- measure is the unread bytes, and a list stands one above a type.
use Prim.Native.Nat.{◌+◌}
use Rattle.signature_token.specs.Ends.{type_measure}
use Rattle.type_nesting.specs.Nesting.{DeepestAlong}
use Rattle.type_nesting.proofs.+nesting_of_type_nesting_of_types.Given as goal

abbrev pub decreases-nesting_of_type : goal.decreases-nesting_of_type
decreases-nesting_of_type l = type_measure l.ty.bytes.now l.ty.at

abbrev pub decreases-nesting_of_types : goal.decreases-nesting_of_types
decreases-nesting_of_types l = type_measure l.types.bytes.now l.types.at + 1

abbrev pub invariant-nesting_of_types-loop : goal.invariant-nesting_of_types-loop
invariant-nesting_of_types-loop l = DeepestAlong l.bytes l.fn.types.at l.fn.types.count l.at l.deepest l.counter
