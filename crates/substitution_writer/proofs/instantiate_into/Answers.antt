-- A leaf has a byte, and room for it.
use native.Mathlib.Omega.{arith}
use Rattle.signature_token.specs.Token.{at_some}
use Rattle.substitution.specs.Filling.{leaf_fits}
use Rattle.substitution_writer.proofs.instantiate_into.Goals as goal

pub bounds-out-0 : goal.bounds-out-0
bounds-out-0 c = omega (arith, (leaf_fits c.token.ensures.is c.requires c.in-Leaf.is).free)

pub overflow_add-result : goal.overflow_add-result
overflow_add-result c = omega (arith, at_some c.args.ty.stands)
