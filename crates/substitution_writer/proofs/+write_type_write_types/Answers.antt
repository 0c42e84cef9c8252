use native.Mathlib.Omega.{arith}
use Rattle.std.proofs.Common.{refl}
use Rattle.type_places.specs.Arguments.{type_there}
use Rattle.signature_token.specs.Ends.{type_room, inner_falls, struct_end, parameter_end}
use Rattle.signature_token.specs.Token.{at_some}
use Rattle.signature_token.specs.TokenLaws.{inner_type, inner_types, instantiation_at}
use Rattle.substitution.specs.Bytes.{part_long, put_long, part_put, part_fits, byte_put}
use Rattle.substitution.specs.Filling.{leaf_fits, struct_fits, wrapped_fits, instantiation_fits, wrapped_room, instantiation_room, parameter_within, parameter_room, placed_room}
use Rattle.substitution_writer.specs.Write.{wrapped_wrote, struct_wrote, instantiation_wrote, parameter_wrote}
use Rattle.substitution_writer.specs.Write.{writing_room, writing_onward, writing_long}
use Rattle.substitution_writer.proofs.+write_type_write_types.Goals as goal

-- ── a leaf ──

pub write_type-bounds-out-w : goal.write_type-bounds-out-w
write_type-bounds-out-w t c = omega (arith, (leaf_fits c.token.ensures.is c.requires c.in-Leaf.is).free)

pub write_type-overflow_add-result : goal.write_type-overflow_add-result
write_type-overflow_add-result t c = omega (arith, at_some c.args.ty.stands)

-- ── a vector or a reference ──

pub write_type-bounds-bytes-at : goal.write_type-bounds-bytes-at
write_type-bounds-bytes-at t c = at_some c.args.ty.stands

pub write_type-bounds-out-w-in-Wrapped : goal.write_type-bounds-out-w-in-Wrapped
write_type-bounds-out-w-in-Wrapped t c = omega (arith, (wrapped_fits c.token.ensures.is c.requires c.in-Wrapped.is).free)

pub write_type-invariant_of-write_type : goal.write_type-invariant_of-write_type
write_type-invariant_of-write_type t c = record { stands = inner_type c.token.ensures.is c.args.ty.stands c.in-Wrapped.is }

pub write_type-write_type-requires : goal.write_type-write_type-requires
write_type-write_type-requires t c =
    let w = c.token.ensures.is in
    let p = c.args.ty.stands in
    let e = c.in-Wrapped.is in
    let k = byte_put c.args.out.now c.args.w c.args.ty.bytes.now c.args.ty.at (at_some p) in
    (omega (arith, inner_falls w p e, c.decreases), rw (put_long k) (wrapped_room w c.requires e refl))

pub write_type-returns-in-Wrapped : goal.write_type-returns-in-Wrapped
write_type-returns-in-Wrapped t c = search wrapped_wrote

-- ── a struct ──

pub write_type-overflow_add-result-in-Struct : goal.write_type-overflow_add-result-in-Struct
write_type-overflow_add-result-in-Struct t c = let p = c.args.ty.stands in omega (arith, struct_end c.token.ensures.is c.in-Struct.is p, type_room p)

pub write_type-overflow_add-at : goal.write_type-overflow_add-at
write_type-overflow_add-at t c = let p = c.args.ty.stands in omega (arith, struct_end c.token.ensures.is c.in-Struct.is p, type_room p)

pub write_type-slice_bounds-put-end : goal.write_type-slice_bounds-put-end
write_type-slice_bounds-put-end t c = let p = c.args.ty.stands in omega (arith, struct_end c.token.ensures.is c.in-Struct.is p, type_room p)

pub write_type-put-requires : goal.write_type-put-requires
write_type-put-requires t c = part_fits (struct_fits c.token.ensures.is c.requires c.in-Struct.is)

pub write_type-returns-in-Struct : goal.write_type-returns-in-Struct
write_type-returns-in-Struct t c = search struct_wrote

-- ── an instantiated struct ──

pub write_type-overflow_add-at-in-StructInstantiation : goal.write_type-overflow_add-at-in-StructInstantiation
write_type-overflow_add-at-in-StructInstantiation t c =
    let p = c.args.ty.stands in
    omega (arith, (instantiation_at c.token.ensures.is p c.in-StructInstantiation.is).long, type_room p)

pub write_type-slice_bounds-put-end-in-StructInstantiation : goal.write_type-slice_bounds-put-end-in-StructInstantiation
write_type-slice_bounds-put-end-in-StructInstantiation t c =
    let p = c.args.ty.stands in
    omega (arith, (instantiation_at c.token.ensures.is p c.in-StructInstantiation.is).long, type_room p)

pub write_type-put-after-requires : goal.write_type-put-after-requires
write_type-put-after-requires t c = part_fits (instantiation_fits c.token.ensures.is c.requires c.in-StructInstantiation.is)

pub write_type-invariant_of-types : goal.write_type-invariant_of-types
write_type-invariant_of-types t c = record { stand = inner_types c.token.ensures.is c.args.ty.stands c.in-StructInstantiation.is }

pub write_type-write_types-requires : goal.write_type-write_types-requires
write_type-write_types-requires t c =
    let w = c.token.ensures.is in
    let p = c.args.ty.stands in
    let e = c.in-StructInstantiation.is in
    let k = part_put c.args.ty.bytes.now c.args.ty.at 4 c.put-after.ensures in (
      omega (arith, (instantiation_at w p e).place, at_some p, c.decreases),
      rw (put_long k) (instantiation_room w c.requires e (omega (arith, k.reached, part_long _ _ 4 (instantiation_fits w c.requires e).there))),
    )

pub write_type-returns-in-StructInstantiation : goal.write_type-returns-in-StructInstantiation
write_type-returns-in-StructInstantiation t c = search instantiation_wrote

-- ── a parameter ──

pub write_type-overflow_add-result-in-TypeParameter : goal.write_type-overflow_add-result-in-TypeParameter
write_type-overflow_add-result-in-TypeParameter t c = let p = c.args.ty.stands in omega (arith, parameter_end c.token.ensures.is c.in-TypeParameter.is p, type_room p)

pub write_type-unwrap-requires : goal.write_type-unwrap-requires
write_type-unwrap-requires t c = type_there c.get.ensures (parameter_within c.token.ensures.is c.requires c.in-TypeParameter.is)

pub write_type-write_argument-requires : goal.write_type-write_argument-requires
write_type-write_argument-requires t c =
    placed_room (c.get.ensures.some _ c.unwrap.ensures) (parameter_room c.token.ensures.is c.requires c.in-TypeParameter.is)

pub write_type-returns-in-TypeParameter : goal.write_type-returns-in-TypeParameter
write_type-returns-in-TypeParameter t c = search parameter_wrote

-- ── the types of a list ──

pub write_types-invariant_of-write_type : goal.write_types-invariant_of-write_type
write_types-invariant_of-write_type t c = record { stands = (writing_room c.loop.invariant c.loop-test.true c.requires).filling.from }

pub write_types-write_type-one-requires : goal.write_types-write_type-one-requires
write_types-write_type-one-requires t c =
    let g = c.loop.invariant in
    let q = c.requires in (
      omega (arith, writing_onward g q.filling, c.decreases),
      rw (writing_long g q.filling) (writing_room g c.loop-test.true q),
    )
