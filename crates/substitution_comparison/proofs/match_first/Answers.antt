-- The first type's own bytes, or its argument's, are those that the types give first.
use native.Mathlib.Omega.{arith}
use Rattle.std.specs.Prelude.{ℕ, List, ◌<◌, ◌≤◌, length}
use Rattle.definitions.specs.Places.{TypeAt, TypesAt, EndOfType}
use Rattle.signature_token.specs.Token.{at_some}
use Rattle.signature_token.specs.TokenLaws.{instantiation_at}
use Rattle.signature_token.specs.Lists.{type_left}
use Rattle.signature_token.specs.Ends.{type_room, struct_end, parameter_end}
use Rattle.signature_token.specs.Passing.{instantiation_left, left_room}
use Rattle.substitution_comparison.specs.Matching.{all_left, leaf_first, struct_first, wrapped_first, instantiation_first, parameter_first, parameter_none}
use Rattle.substitution_comparison.proofs.match_first.Goals as goal

-- the first type
first : {ty : List ℕ} {p left : ℕ} → 0 < left → TypesAt ty p left → TypeAt ty p
first l q = type_left l (all_left q)

-- its end is within the bytes
room : {ty : List ℕ} {p end left : ℕ} → EndOfType ty p end → 0 < left → TypesAt ty p left → end ≤ length ty
room e l q = omega (arith, e (first l q), type_room (first l q))

pub invariant_of-token : goal.invariant_of-token
invariant_of-token c = record { stands = first c.requires.some_left c.args.types.stand }

pub overflow_add-at : goal.overflow_add-at
overflow_add-at c = omega (arith, at_some (first c.requires.some_left c.args.types.stand))

pub slice_bounds-match_part-end : goal.slice_bounds-match_part-end
slice_bounds-match_part-end c = omega (arith, at_some (first c.requires.some_left c.args.types.stand))

pub returns-in-Leaf : goal.returns-in-Leaf
returns-in-Leaf c = search leaf_first

pub overflow_add-at-in-Wrapped : goal.overflow_add-at-in-Wrapped
overflow_add-at-in-Wrapped c = omega (arith, at_some (first c.requires.some_left c.args.types.stand))

pub slice_bounds-match_part-end-in-Wrapped : goal.slice_bounds-match_part-end-in-Wrapped
slice_bounds-match_part-end-in-Wrapped c = omega (arith, at_some (first c.requires.some_left c.args.types.stand))

pub returns-in-Wrapped : goal.returns-in-Wrapped
returns-in-Wrapped c = search wrapped_first

pub overflow_add-at-in-Struct : goal.overflow_add-at-in-Struct
overflow_add-at-in-Struct c = omega (arith, room (struct_end c.token.ensures.is c.in-Struct.is) c.requires.some_left c.args.types.stand)

pub slice_bounds-match_part-end-in-Struct : goal.slice_bounds-match_part-end-in-Struct
slice_bounds-match_part-end-in-Struct c = omega (arith, room (struct_end c.token.ensures.is c.in-Struct.is) c.requires.some_left c.args.types.stand)

pub returns-in-Struct : goal.returns-in-Struct
returns-in-Struct c = search struct_first

pub overflow_add-at-in-StructInstantiation : goal.overflow_add-at-in-StructInstantiation
overflow_add-at-in-StructInstantiation c =
    let p = first c.requires.some_left c.args.types.stand in
    omega (arith, (instantiation_at c.token.ensures.is p c.in-StructInstantiation.is).long, type_room p)

pub slice_bounds-match_part-end-in-StructInstantiation : goal.slice_bounds-match_part-end-in-StructInstantiation
slice_bounds-match_part-end-in-StructInstantiation c =
    let p = first c.requires.some_left c.args.types.stand in
    omega (arith, (instantiation_at c.token.ensures.is p c.in-StructInstantiation.is).long, type_room p)

pub overflow_add-left : goal.overflow_add-left
overflow_add-left c =
    omega (arith, left_room (instantiation_left c.requires.some_left (all_left c.args.types.stand) c.token.ensures.is c.in-StructInstantiation.is))

pub returns-in-StructInstantiation : goal.returns-in-StructInstantiation
returns-in-StructInstantiation c = search instantiation_first

pub returns-in_err-get-in-TypeParameter : goal.returns-in_err-get-in-TypeParameter
returns-in_err-get-in-TypeParameter c =
    rw c.from_residual.ensures (parameter_none c.requires.some_left c.token.ensures.is c.in-TypeParameter.is c.in_err-get-in-TypeParameter.ensures)

pub overflow_add-at-in-TypeParameter : goal.overflow_add-at-in-TypeParameter
overflow_add-at-in-TypeParameter c =
    omega (arith, room (parameter_end c.token.ensures.is c.in-TypeParameter.is) c.requires.some_left c.args.types.stand)

pub returns-in_ok-get-in-TypeParameter : goal.returns-in_ok-get-in-TypeParameter
returns-in_ok-get-in-TypeParameter c =
    parameter_first c.requires.some_left c.token.ensures.is c.in-TypeParameter.is c.in_ok-get-in-TypeParameter.ensures c.match_argument.ensures
