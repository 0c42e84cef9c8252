use native.Mathlib.Omega.{arith}
use Rattle.std.specs.Prelude.{refl}
use Rattle.signature_token.specs.Token.{at_some}
use Rattle.signature_token.specs.Lists.{type_left}
use Rattle.substitution_comparison.specs.Matching.{all_left, agreed_start, agreed_on, agreed_done}
use Rattle.substitution_comparison.proofs.same_instantiated.Goals as goal

pub loop-left-init : goal.loop-left-init
loop-left-init c = agreed_start c.args.found.stands

pub invariant_of-types : goal.invariant_of-types
invariant_of-types c = record { stand = (c.loop-left.invariant.is c.args.ty.stands c.args.args.stand).next }

pub loop-left-smaller : goal.loop-left-smaller
loop-left-smaller c =
    let next = (c.loop-left.invariant.is c.args.ty.stands c.args.args.stand).next in
    let onward = (c.in-Some.ensures.yes _ refl next c.args.args.stand).onward in
    omega (arith, onward, at_some (type_left c.loop-left-test.true (all_left next)))

pub loop-left-preserved : goal.loop-left-preserved
loop-left-preserved c = agreed_on c.loop-left.invariant c.in-Some.ensures c.args.ty.stands c.args.args.stand

pub returns : goal.returns
returns c = agreed_done c.loop-left.invariant (omega arith)
