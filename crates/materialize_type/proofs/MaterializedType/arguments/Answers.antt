-- They are there, and end where the list does.
use native.Mathlib.Omega.{arith}
use Rattle.std.specs.Prelude.{refl}
use Rattle.std.proofs.Common.{◌∙◌}
use Rattle.definitions.specs.SignatureToken.{encode}
use Rattle.theorems.specs.AtLaws.{at_room}
use Rattle.signature_token.specs.Token.{at_some}
use Rattle.signature_token.specs.Lists.{next_type, along_start}
use Rattle.signature_token.specs.TokenLaws.{none_is}
use Rattle.materialize_type.proofs.MaterializedType.arguments.Goals as goal

pub returns-then-self-eq0 : goal.returns-then-self-eq0
unfolding encode
returns-then-self-eq0 c = let q = c.args.self.type_args.types.stand in rw (none_is q.types (q.counted ∙ c.if-self-eq0.true)) refl

pub slice_bounds-result-end-2 : goal.slice_bounds-result-end-2
slice_bounds-result-end-2 c =
    let q = c.args.self.type_args.types.stand in
    omega (arith, c.args.self.ends q, at_room q.stands, at_some (next_type (omega arith) (along_start q)))
