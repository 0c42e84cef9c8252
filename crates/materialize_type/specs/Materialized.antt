-- The type that a `MaterializedType` stands for.
use Rattle.definitions.specs.SignatureToken.{SignatureToken}
use Rattle.materialize_type.specs.declared.MaterializedType.{MaterializedType}
use Rattle.materialize_type.specs.Materialize.{materialized}

abbrev pub type_of : MaterializedType → SignatureToken
type_of m = materialized m.struct_handle.0 m.type_args.types.stand.types
