-- `write_type` and `write_types`, which call each other: each writes the bytes that result from a place on, where it is known that they are
-- there and have room. The measure is the unread bytes, and a list stands one above a type.
use Prim.Native.Nat.{◌+◌}
use Rattle.signature_token.specs.Ends.{type_measure}
use Rattle.substitution_writer.specs.Write.{Writing}
use Rattle.substitution_writer.proofs.+write_type_write_types.Given as goal

abbrev pub decreases-write_type : goal.decreases-write_type
decreases-write_type l = type_measure l.ty.bytes.now l.ty.at

abbrev pub decreases-write_types : goal.decreases-write_types
decreases-write_types l = type_measure l.types.bytes.now l.types.at + 1

abbrev pub invariant-write_types-loop : goal.invariant-write_types-loop
invariant-write_types-loop l =
    Writing l.bytes l.fn.types.at l.fn.types.count l.args.bytes.now l.args.places.now l.w l.initial.out l.at l.out l.reached l.counter
