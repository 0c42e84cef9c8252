-- What is walked ends as a list of one type.
use Rattle.signature_token.specs.Passing.{one_end}
use Rattle.signature_token.proofs.TypeRef.end.Goals as goal

pub returns : goal.returns
returns c = one_end c.end.ensures
