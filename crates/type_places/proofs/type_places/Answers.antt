use native.Mathlib.Omega.{arith}
use Rattle.signature_token.specs.Token.{at_some}
use Rattle.signature_token.specs.Lists.{next_type}
use Rattle.type_places.specs.Places.{placing_start, placing_next, placing_done}
use Rattle.type_places.proofs.type_places.Goals as goal

pub loop-i-init : goal.loop-i-init
loop-i-init c = placing_start

pub overflow_cast-out : goal.overflow_cast-out
overflow_cast-out c = omega (arith, at_some (next_type c.loop-i-test.true (c.loop-i.invariant.each c.args.types.stand).rest), c.requires.1)

pub invariant_of-end : goal.invariant_of-end
invariant_of-end c = record { stands = next_type c.loop-i-test.true (c.loop-i.invariant.each c.args.types.stand).rest }

pub loop-i-preserved : goal.loop-i-preserved
loop-i-preserved c =
    placing_next c.loop-i-test.true (omega (arith, c.requires.0, c.loop-i.invariant.long, c.loop-i-test.true)) c.loop-i.invariant
    c.end-at.ensures

pub returns : goal.returns
returns c = placing_done (omega arith) c.loop-i.invariant
