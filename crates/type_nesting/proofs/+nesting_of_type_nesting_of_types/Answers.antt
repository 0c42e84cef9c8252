use native.Mathlib.Omega.{arith}
use Rattle.signature_token.specs.Token.{at_some}
use Rattle.signature_token.specs.TokenLaws.{inner_type, inner_types, instantiation_at}
use Rattle.signature_token.specs.Lists.{next_type}
use Rattle.signature_token.specs.Ends.{inner_falls}
use Rattle.type_nesting.specs.Nesting.{deepest_start, deepest_next, deepest_done, nesting_fits, nestings_fit, leaf_nesting}
use Rattle.type_nesting.specs.Nesting.{wrapped_nesting, struct_nesting, instantiation_nesting, parameter_nesting}
use Rattle.type_nesting.proofs.+nesting_of_type_nesting_of_types.Goals as goal

pub nesting_of_type-invariant_of-nesting_of_type : goal.nesting_of_type-invariant_of-nesting_of_type
nesting_of_type-invariant_of-nesting_of_type t c = record { stands = inner_type c.token.ensures.is c.args.ty.stands c.in-Wrapped.is }

pub nesting_of_type-nesting_of_type-requires : goal.nesting_of_type-nesting_of_type-requires
nesting_of_type-nesting_of_type-requires t c = (omega (arith, inner_falls c.token.ensures.is c.args.ty.stands c.in-Wrapped.is, c.decreases), tt)

pub nesting_of_type-overflow_add-result : goal.nesting_of_type-overflow_add-result
nesting_of_type-overflow_add-result t c =
    omega (arith, nesting_fits (inner_type c.token.ensures.is c.args.ty.stands c.in-Wrapped.is) c.nesting_of_type.ensures)

pub nesting_of_type-invariant_of-nesting_of_types : goal.nesting_of_type-invariant_of-nesting_of_types
nesting_of_type-invariant_of-nesting_of_types t c = record { stand = inner_types c.token.ensures.is c.args.ty.stands c.in-StructInstantiation.is }

pub nesting_of_type-nesting_of_types-requires : goal.nesting_of_type-nesting_of_types-requires
nesting_of_type-nesting_of_types-requires t c =
    let p = c.args.ty.stands in
    (omega (arith, (instantiation_at c.token.ensures.is p c.in-StructInstantiation.is).place, at_some p, c.decreases), tt)

pub nesting_of_type-overflow_add-result-in-StructInstantiation : goal.nesting_of_type-overflow_add-result-in-StructInstantiation
nesting_of_type-overflow_add-result-in-StructInstantiation t c =
    omega (arith, nestings_fit (inner_types c.token.ensures.is c.args.ty.stands c.in-StructInstantiation.is) c.nesting_of_types.ensures)

pub nesting_of_type-returns-in-Leaf : goal.nesting_of_type-returns-in-Leaf
nesting_of_type-returns-in-Leaf t c = leaf_nesting c.token.ensures.is c.in-Leaf.is

pub nesting_of_type-returns-in-Wrapped : goal.nesting_of_type-returns-in-Wrapped
nesting_of_type-returns-in-Wrapped t c = wrapped_nesting c.token.ensures.is c.in-Wrapped.is c.nesting_of_type.ensures

pub nesting_of_type-returns-in-Struct : goal.nesting_of_type-returns-in-Struct
nesting_of_type-returns-in-Struct t c = struct_nesting c.token.ensures.is c.in-Struct.is

pub nesting_of_type-returns-in-StructInstantiation : goal.nesting_of_type-returns-in-StructInstantiation
nesting_of_type-returns-in-StructInstantiation t c = instantiation_nesting c.token.ensures.is c.in-StructInstantiation.is c.nesting_of_types.ensures

pub nesting_of_type-returns-in-TypeParameter : goal.nesting_of_type-returns-in-TypeParameter
nesting_of_type-returns-in-TypeParameter t c = parameter_nesting c.token.ensures.is c.in-TypeParameter.is

pub nesting_of_types-loop-init : goal.nesting_of_types-loop-init
nesting_of_types-loop-init t c = deepest_start

pub nesting_of_types-invariant_of-next : goal.nesting_of_types-invariant_of-next
nesting_of_types-invariant_of-next t c = record { stands = next_type c.loop-test.true (c.loop.invariant c.args.types.stand).rest }

pub nesting_of_types-nesting_of_type-requires : goal.nesting_of_types-nesting_of_type-requires
nesting_of_types-nesting_of_type-requires t c = (omega (arith, (c.loop.invariant c.args.types.stand).rest.past, c.decreases), tt)

pub nesting_of_types-loop-preserved : goal.nesting_of_types-loop-preserved
nesting_of_types-loop-preserved t c =
    deepest_next c.loop-test.true c.loop.invariant c.nesting_of_type.ensures c.end-at.ensures
    c.max-deepest.ensures

pub nesting_of_types-returns : goal.nesting_of_types-returns
nesting_of_types-returns t c = deepest_done (omega arith) c.loop.invariant
