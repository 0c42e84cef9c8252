-- An argument's bytes are added once its end is found, or need not be where the count is over 65,535 already.
use native.Mathlib.Omega.{arith}
use Rattle.signature_token.specs.Ends.{type_room}
use Rattle.substitution.proofs.size_of_argument.Goals as goal

pub grown-requires : goal.grown-requires
grown-requires c = let p = c.args.argument.stands in omega (arith, c.end.ensures p, type_room p)
