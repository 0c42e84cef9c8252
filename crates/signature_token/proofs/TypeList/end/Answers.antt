-- One law of the walk for each shape of the type at hand.
use native.Mathlib.Omega.{arith}
use Rattle.signature_token.specs.Lists.{type_left, left_done}
use Rattle.signature_token.specs.Passing.{leaf_passed, index_passed, wrapped_passed, instantiation_passed}
use Rattle.signature_token.specs.Passing.{leaf_within, index_within, wrapped_less, instantiation_less, left_room}
use Rattle.signature_token.proofs.TypeList.end.Goals as goal

pub invariant_of-token : goal.invariant_of-token
invariant_of-token c = record { stands = type_left c.loop-left-test.true (c.loop-left.invariant c.args.self.stand) }

pub overflow_add-p : goal.overflow_add-p
overflow_add-p c = omega (arith, leaf_within c.loop-left-test.true c.loop-left.invariant c.token.ensures.is c.in-Leaf.is c.args.self.stand)

pub loop-left-smaller-in-Leaf : goal.loop-left-smaller-in-Leaf
loop-left-smaller-in-Leaf c = omega (arith, leaf_within c.loop-left-test.true c.loop-left.invariant c.token.ensures.is c.in-Leaf.is c.args.self.stand)

pub loop-left-preserved-in-Leaf : goal.loop-left-preserved-in-Leaf
loop-left-preserved-in-Leaf c = leaf_passed c.loop-left-test.true c.loop-left.invariant c.token.ensures.is c.in-Leaf.is

pub loop-left-smaller-in-Wrapped : goal.loop-left-smaller-in-Wrapped
loop-left-smaller-in-Wrapped c = wrapped_less c.loop-left-test.true c.loop-left.invariant c.token.ensures.is c.in-Wrapped.is c.args.self.stand

pub loop-left-preserved-in-Wrapped : goal.loop-left-preserved-in-Wrapped
loop-left-preserved-in-Wrapped c = wrapped_passed c.loop-left-test.true c.loop-left.invariant c.token.ensures.is c.in-Wrapped.is

pub overflow_add-left : goal.overflow_add-left
overflow_add-left c =
    omega (arith, left_room (instantiation_passed c.loop-left-test.true c.loop-left.invariant c.token.ensures.is c.in-StructInstantiation.is c.args.self.stand))

pub loop-left-smaller-in-StructInstantiation : goal.loop-left-smaller-in-StructInstantiation
loop-left-smaller-in-StructInstantiation c =
    instantiation_less c.loop-left-test.true c.loop-left.invariant c.token.ensures.is c.in-StructInstantiation.is c.args.self.stand

pub loop-left-preserved-in-StructInstantiation : goal.loop-left-preserved-in-StructInstantiation
loop-left-preserved-in-StructInstantiation c =
    instantiation_passed c.loop-left-test.true c.loop-left.invariant c.token.ensures.is c.in-StructInstantiation.is

pub returns : goal.returns
returns c = λ q. left_done (omega arith) (c.loop-left.invariant q)

pub overflow_add-p-in-Struct : goal.overflow_add-p-in-Struct
overflow_add-p-in-Struct c = omega (arith, index_within c.loop-left-test.true c.loop-left.invariant c.token.ensures.is c.in-Struct.is c.args.self.stand)

pub loop-left-smaller : goal.loop-left-smaller
loop-left-smaller c = omega (arith, index_within c.loop-left-test.true c.loop-left.invariant c.token.ensures.is c.in-Struct.is c.args.self.stand)

pub loop-left-preserved : goal.loop-left-preserved
loop-left-preserved c = index_passed c.loop-left-test.true c.loop-left.invariant c.token.ensures.is c.in-Struct.is
