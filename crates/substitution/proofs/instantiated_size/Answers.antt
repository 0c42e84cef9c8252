-- A leaf is one byte.
use native.Mathlib.Omega.{arith}
use Rattle.signature_token.specs.Token.{at_some}
use Rattle.substitution.specs.Size.{leaf_alone}
use Rattle.substitution.proofs.instantiated_size.Goals as goal

pub overflow_add-result : goal.overflow_add-result
overflow_add-result c = omega (arith, at_some c.args.ty.stands)

pub returns : goal.returns
returns c = leaf_alone c.token.ensures.is c.in-Leaf.is
