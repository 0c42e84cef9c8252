use Rattle.std.specs.Prelude.{refl}
use Rattle.std.proofs.Common.{sym, inl, inr, arith}
use Rattle.file_format.specs.Answers.{handed_on}
use Rattle.signature_token.specs.TokenLaws.{inner_type, inner_types}
use Rattle.signature_token.specs.Ends.{leaf_end, struct_end, parameter_end, inner_falls}
use Rattle.binary_views.specs.Abilities.{end_room, leaf_abilities, vector_abilities, vector_refused, reference_abilities, struct_abilities}
use Rattle.binary_views.specs.Abilities.{parameter_abilities, instantiation_falls}
use Rattle.binary_views.specs.Abilities.{instantiation_type, instantiation_past, argument_refused, instantiation_abilities}
use Rattle.binary_views.specs.Gathering.{gathering_start, gathering_type, gathering_next, gathering_refused, gathering_done}
use Rattle.binary_views.proofs.AbilityTables.+abilities_to_gather_instantiation_abilities.Goals as goal

-- ── a type ──

pub abilities_to-overflow_add-result : goal.abilities_to-overflow_add-result
abilities_to-overflow_add-result t c = omega (arith, end_room (leaf_end c.token.ensures.is c.in-Leaf.is) c.args.ty.stands)

pub abilities_to-overflow_add-at : goal.abilities_to-overflow_add-at
abilities_to-overflow_add-at t c = omega (arith, end_room (struct_end c.token.ensures.is c.in-Struct.is) c.args.ty.stands)

pub abilities_to-overflow_add-at-in-TypeParameter :
    goal.abilities_to-overflow_add-at-in-TypeParameter
abilities_to-overflow_add-at-in-TypeParameter t c = omega (arith, end_room (parameter_end c.token.ensures.is c.in-TypeParameter.is) c.args.ty.stands)

pub abilities_to-abilities_to-requires : goal.abilities_to-abilities_to-requires
abilities_to-abilities_to-requires t c =
    let w = c.token.ensures.is in
    let e = c.in-Wrapped.is in
    omega (arith, inner_falls w c.args.ty.stands e, c.decreases)

pub abilities_to-invariant_of-inner : goal.abilities_to-invariant_of-inner
abilities_to-invariant_of-inner t c = record { stands = inner_type c.token.ensures.is c.args.ty.stands c.in-Wrapped.is }

pub abilities_to-instantiation_abilities-requires :
    goal.abilities_to-instantiation_abilities-requires
abilities_to-instantiation_abilities-requires t c =
    let w = c.token.ensures.is in
    let e = c.in-StructInstantiation.is in
    omega (arith, instantiation_falls w c.args.ty.stands e (rw e at c.token.ensures.few), c.decreases)

pub abilities_to-invariant_of-inner-in-Reference : goal.abilities_to-invariant_of-inner-in-Reference
abilities_to-invariant_of-inner-in-Reference t c = record { stands = inner_type c.token.ensures.is c.args.ty.stands c.in-Wrapped.is }

pub abilities_to-invariant_of-types : goal.abilities_to-invariant_of-types
abilities_to-invariant_of-types t c = record { stand = inner_types c.token.ensures.is c.args.ty.stands c.in-StructInstantiation.is }

pub abilities_to-returns-in-Leaf : goal.abilities_to-returns-in-Leaf
abilities_to-returns-in-Leaf t c = rw c.leaf_abilities.ensures (leaf_abilities c.token.ensures.is c.in-Leaf.is)

pub abilities_to-returns-in_err-element-in-Vector :
    goal.abilities_to-returns-in_err-element-in-Vector
abilities_to-returns-in_err-element-in-Vector t c =
    rw (handed_on _ c.from_residual.ensures.1)
    (vector_refused c.token.ensures.is (rw c.in-Vector.is at c.in-Wrapped.is) c.in_err-element-in-Vector.ensures)

pub abilities_to-returns-in_ok-element-in-Vector : goal.abilities_to-returns-in_ok-element-in-Vector
abilities_to-returns-in_ok-element-in-Vector t c =
    rw c.ending_at.ensures
    (vector_abilities c.token.ensures.is (rw c.in-Vector.is at c.in-Wrapped.is) c.in_ok-element-in-Vector.ensures c.vector_abilities.ensures)

pub abilities_to-returns-in-Reference : goal.abilities_to-returns-in-Reference
abilities_to-returns-in-Reference t c =
    let w = c.token.ensures.is in
    elim c.in-Reference.is [
      | inl e ↦ reference_abilities w c.in-Wrapped.is (λ k. cc) c.end.ensures
      | inr e ↦ reference_abilities w c.in-Wrapped.is (λ k. cc) c.end.ensures
    ]

pub abilities_to-returns-in-Struct : goal.abilities_to-returns-in-Struct
abilities_to-returns-in-Struct t c =
    rw c.ending_at-in-Struct.ensures (struct_abilities c.token.ensures.is c.in-Struct.is c.struct_abilities.ensures)

pub abilities_to-returns-in-StructInstantiation : goal.abilities_to-returns-in-StructInstantiation
abilities_to-returns-in-StructInstantiation t c =
    instantiation_type c.token.ensures.is c.in-StructInstantiation.is c.instantiation_abilities.ensures

pub abilities_to-returns-in-TypeParameter : goal.abilities_to-returns-in-TypeParameter
abilities_to-returns-in-TypeParameter t c =
    rw c.ending_at-in-TypeParameter.ensures (parameter_abilities c.token.ensures.is c.in-TypeParameter.is c.type_parameter_abilities.ensures)

-- ── the arguments ──

pub gather-loop-set-init : goal.gather-loop-set-init
gather-loop-set-init t c = gathering_start (sym c.requires)

pub gather-abilities_to-requires : goal.gather-abilities_to-requires
gather-abilities_to-requires t c =
    let g = c.loop-set.invariant in
    omega (arith, (g.rest c.args.types.stand).past, c.decreases)

pub gather-invariant_of-abilities_to : goal.gather-invariant_of-abilities_to
gather-invariant_of-abilities_to t c = record { stands = gathering_type c.loop-set.invariant (omega (arith, c.requires)) c.args.types.stand }

pub gather-returns-in_err-abilities : goal.gather-returns-in_err-abilities
gather-returns-in_err-abilities t c =
    rw (handed_on _ c.from_residual.ensures.1) (gathering_refused c.loop-set.invariant (omega arith) c.in_err-abilities.ensures)

pub gather-loop-set-preserved : goal.gather-loop-set-preserved
gather-loop-set-preserved t c = gathering_next c.loop-set.invariant (omega arith) c.in_ok-abilities.ensures

pub gather-returns : goal.gather-returns
gather-returns t c = gathering_done c.loop-set.invariant (omega arith)

-- ── a struct ──

pub instantiation_abilities-returns-in_err-p : goal.instantiation_abilities-returns-in_err-p
instantiation_abilities-returns-in_err-p t c = rw (handed_on _ c.from_residual.ensures.1) (instantiation_past c.in_err-p.ensures.is)

pub instantiation_abilities-returns-in_err-end : goal.instantiation_abilities-returns-in_err-end
instantiation_abilities-returns-in_err-end t c =
    rw (handed_on _ c.from_residual-in_err-end.ensures.1) (argument_refused c.in_ok-p.ensures.is refl c.in_err-end.ensures)

pub instantiation_abilities-returns : goal.instantiation_abilities-returns
instantiation_abilities-returns t c =
    rw c.ending_at.ensures (instantiation_abilities c.in_ok-p.ensures.is refl c.in_ok-end.ensures c.instantiated_abilities.ensures)
