-- A type has a byte.
use Rattle.signature_token.specs.Token.{at_some}
use Rattle.substitution_comparison.proofs.compare_instantiated.Goals as goal

pub bounds-found-found : goal.bounds-found-found
bounds-found-found c = at_some c.args.found.stands
