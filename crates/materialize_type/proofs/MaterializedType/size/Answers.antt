-- The size is a number, and that of the type.
use native.Mathlib.Omega.{arith}
use Rattle.theorems.specs.AtLaws.{at_room}
use Rattle.materialize_type.proofs.Materialize.{arguments_of}
use Rattle.materialize_type.proofs.MaterializedType.size.Goals as goal

pub materialized_size-requires : goal.materialized_size-requires
materialized_size-requires c =
    let l = arguments_of c.args.self in
    (omega (arith, l.ends), omega (arith, l.ends, at_room l.types.stands))

pub returns : goal.returns
returns c = c.materialized_size.ensures.is c.args.self.struct_handle.0 c.args.self.type_args.types.bytes.now (arguments_of c.args.self)
