-- Whatever types are known to stand there are those that the list keeps.
use Rattle.std.proofs.Common.{ap}
use Rattle.definitions.specs.Places.{TypesAt}
use Rattle.signature_token.specs.Standing.{TypesAt-prop}
use Rattle.materialize_type.specs.Materialize.{materialized}
use Rattle.materialize_type.proofs.MaterializedType.new.Goals as goal

pub returns-clause-made : goal.returns-clause-made
returns-clause-made c =
    let types = c.args.type_args.types in
    λ q. ap (λ (p : TypesAt types.bytes.now types.at types.count). materialized c.args.struct_handle.0 p.types)
    (TypesAt-prop types.bytes.now types.at types.count types.stand q)
