use Prim.Native.Nat.{◌+◌, ◌≤◌}
use native.Mathlib.Omega.{arith}
use lib.ListN.{length}
use Rattle.std.proofs.lemmas.Result.{err_from_is_err_and}
use Rattle.type_places.specs.Arguments.{type_found, type_missing}
use Rattle.signature_token.specs.Lists.{type_left}
use Rattle.signature_token.specs.Passing.{leaf_within, struct_within, parameter_within, wrapped_less, instantiation_less, instantiation_passed, left_room}
use Rattle.substitution.specs.Counting.{passing, counted_start, leaf_counted, struct_counted, argument_counted}
use Rattle.substitution.specs.Counting.{argument_missing, wrapped_counted, instantiation_counted}
use Rattle.substitution.proofs.instantiated_sizes.Goals as goal
use Rattle.substitution.proofs.instantiated_sizes.Goals.{In-Leaf, In-Struct, In-TypeParameter}

-- the bytes of a type that is passed whole are there
leaf : (c : In-Leaf) → c.loop-left.at + 1 ≤ length c.args.types.bytes.now
leaf c = leaf_within c.loop-left-test.true (passing c.loop-left.invariant c.args.args.stand) c.token.ensures.is c.in-Leaf.is c.args.types.stand

struct : (c : In-Struct) → c.loop-left.at + 3 ≤ length c.args.types.bytes.now
struct c = struct_within c.loop-left-test.true (passing c.loop-left.invariant c.args.args.stand) c.token.ensures.is c.in-Struct.is c.args.types.stand

parameter : (c : In-TypeParameter) → c.loop-left.at + 3 ≤ length c.args.types.bytes.now
parameter c = parameter_within c.loop-left-test.true (passing c.loop-left.invariant c.args.args.stand) c.token.ensures.is c.in-TypeParameter.is c.args.types.stand

pub loop-left-init : goal.loop-left-init
loop-left-init c = counted_start

pub invariant_of-token : goal.invariant_of-token
invariant_of-token c = record { stands = type_left c.loop-left-test.true (passing c.loop-left.invariant c.args.args.stand c.args.types.stand) }

pub overflow_add-at : goal.overflow_add-at
overflow_add-at c = omega (arith, leaf (goal.at.overflow_add-at c).In-Leaf)

pub loop-left-smaller-in-Leaf : goal.loop-left-smaller-in-Leaf
loop-left-smaller-in-Leaf c = omega (arith, leaf (goal.at.loop-left-smaller-in-Leaf c).In-Leaf)

pub loop-left-preserved-in-Leaf : goal.loop-left-preserved-in-Leaf
loop-left-preserved-in-Leaf c = leaf_counted c.loop-left-test.true c.loop-left.invariant c.token.ensures.is c.in-Leaf.is c.grown-len.ensures

pub loop-left-smaller-in-Wrapped : goal.loop-left-smaller-in-Wrapped
loop-left-smaller-in-Wrapped c = wrapped_less c.loop-left-test.true (passing c.loop-left.invariant c.args.args.stand) c.token.ensures.is c.in-Wrapped.is c.args.types.stand

pub loop-left-preserved-in-Wrapped : goal.loop-left-preserved-in-Wrapped
loop-left-preserved-in-Wrapped c =
    wrapped_counted c.loop-left-test.true c.loop-left.invariant c.token.ensures.is c.in-Wrapped.is
    c.grown-len-in-Wrapped.ensures

pub overflow_add-at-in-Struct : goal.overflow_add-at-in-Struct
overflow_add-at-in-Struct c = omega (arith, struct (goal.at.overflow_add-at-in-Struct c).In-Struct)

pub loop-left-smaller-in-Struct : goal.loop-left-smaller-in-Struct
loop-left-smaller-in-Struct c = omega (arith, struct (goal.at.loop-left-smaller-in-Struct c).In-Struct)

pub loop-left-preserved-in-Struct : goal.loop-left-preserved-in-Struct
loop-left-preserved-in-Struct c =
    struct_counted c.loop-left-test.true c.loop-left.invariant c.token.ensures.is c.in-Struct.is
    c.grown-len-in-Struct.ensures

pub overflow_add-left : goal.overflow_add-left
overflow_add-left c = omega (arith, left_room (instantiation_passed c.loop-left-test.true (passing c.loop-left.invariant c.args.args.stand) c.token.ensures.is c.in-StructInstantiation.is c.args.types.stand))

pub loop-left-smaller-in-StructInstantiation : goal.loop-left-smaller-in-StructInstantiation
loop-left-smaller-in-StructInstantiation c = instantiation_less c.loop-left-test.true (passing c.loop-left.invariant c.args.args.stand) c.token.ensures.is c.in-StructInstantiation.is c.args.types.stand

pub loop-left-preserved-in-StructInstantiation : goal.loop-left-preserved-in-StructInstantiation
loop-left-preserved-in-StructInstantiation c =
    instantiation_counted c.loop-left-test.true c.loop-left.invariant c.token.ensures.is c.in-StructInstantiation.is
    c.grown-len-in-StructInstantiation.ensures

pub returns-in_err-argument-in-TypeParameter : goal.returns-in_err-argument-in-TypeParameter
returns-in_err-argument-in-TypeParameter c =
    let none = type_missing c.get.ensures _ c.in_err-argument-in-TypeParameter.ensures.value in
    let p = err_from_is_err_and c.from_residual.result c.from_residual.ensures.1 in
    rw (p.1, p.2, none.1) (argument_missing c.loop-left-test.true c.loop-left.invariant c.token.ensures.is c.in-TypeParameter.is none.0)

pub overflow_add-at-in-TypeParameter : goal.overflow_add-at-in-TypeParameter
overflow_add-at-in-TypeParameter c = omega (arith, parameter (goal.at.overflow_add-at-in-TypeParameter c).In-TypeParameter)

pub loop-left-smaller : goal.loop-left-smaller
loop-left-smaller c = omega (arith, parameter (goal.at.loop-left-smaller c).In-TypeParameter)

pub loop-left-preserved : goal.loop-left-preserved
loop-left-preserved c =
    argument_counted c.loop-left-test.true c.loop-left.invariant c.token.ensures.is c.in-TypeParameter.is
    (type_found c.get.ensures _ c.in_ok-argument-in-TypeParameter.ensures.value) c.size_of_argument-len.ensures
