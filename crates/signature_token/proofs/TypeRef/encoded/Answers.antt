-- The type's end is there.
use Rattle.signature_token.specs.Encoded.{type_end}
use Rattle.signature_token.proofs.TypeRef.encoded.Goals as goal

pub slice_bounds-result-end : goal.slice_bounds-result-end
slice_bounds-result-end c = type_end c.end.ensures c.args.self.stands
