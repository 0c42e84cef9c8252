-- What a look-up of abilities takes from a unit that was read: the places of its struct handles, and the bytes of the function's type
-- parameters, which are their constraints.
use Rattle.std.specs.Prelude.{◌≡◌, List, [], ◌∷◌, ◌++◌, ℕ, zero, suc, ◌+◌, ◌-◌, ◌≤◌, ◌<◌, take, drop, get_or}
use Rattle.std.proofs.Math.Path.{refl, sym, ap}
use Rattle.std.proofs.Common.{ap₂, ◌∙◌, add-one, length-take, drop-cons}
use native.Mathlib.Omega.{arith}
use Rattle.std.proofs.Math.ListN.{length}
use Rattle.definitions.specs.SignatureToken.{Signature}
use Rattle.definitions.specs.CompiledUnit as defs
use Rattle.definitions.specs.Abilities as defs_abilities
use Rattle.definitions.specs.Reading.{read, ◌>>=◌, byte, many, give}
use Rattle.definitions.specs.Reader.{compiled_unit, items, ability, signature_of, function_view}
use Rattle.definitions.specs.Places.{TypeAt}
use Rattle.definitions.specs.Substitution.{materialize_type}
use Rattle.theorems.specs.Bytes.{list_of_arguments}
use Rattle.file_format.specs.Answers.{PartialVMResult}
use Rattle.file_format.specs.declared.AbilitySet.{AbilitySet}
use Rattle.record_reader.specs.Apart.{parts, made, byte_read}
use Rattle.signature_token.specs.declared.SignatureView.{SignatureView}
use Rattle.record_views.specs.Records.{TypesIn}
use Rattle.record_views.specs.Reread.{types_at}
use Rattle.binary_views.specs.Handles.{HandlesAt, byte_up_to_read}
use Rattle.binary_views.specs.Abilities.{AbilitiesAt, MaterializedAbilities}
use Rattle.unit.specs.declared.View.{View}
use Rattle.unit.specs.Outline.{starts, joined}
use Rattle.unit.specs.Views.{UnitRead, segments, view_of}
use Rattle.unit_tables.specs.declared.UnitView.{UnitView}
use Rattle.unit_tables.specs.Compiled.{unit_read, compiled}
use Rattle.binary_views.specs.declared.AbilityTables.{AbilityTables}
use Rattle.unit_tables.specs.Tables.{stand, unit_short}
use Rattle.function_views.specs.Named.{signature_read}
use Rattle.ability_views.specs.Answers.{ContextIs, AbilitiesIs}

-- ── the constraints ──

-- so many ability sets were read: they are the bytes
pub record SetsRead (s : List ℕ) (n p : ℕ) (sets : List ℕ) : Type 0 where
  pub is : sets ≡ take n (drop p s)
  pub within : p + n ≤ length s

sets_read : (s : List ℕ) (n p : ℕ) {sets : List ℕ} {e : ℕ} → p ≤ length s → many n ability s p ≡ read sets e → SetsRead s n p sets
unfolding many ability
sets_read s zero p l h = record { is = sym (made s h).0; within = omega arith }
sets_read s (suc n) p l h =
    let a = parts ability (λ a. many n ability >>= λ rest. give (a ∷ rest)) s p h in
    let b = parts (many n ability) (λ rest. give (a.value ∷ rest)) s a.middle a.second in
    let x = byte_up_to_read 15 a.first in
    let k = x.within in
    let q = x.after in
    let r = sets_read s n a.middle (omega arith) b.first in
    let m = r.within in
    let z = (made s b.second).0 in
    record { is = sym z ∙ rw (r.is, q, drop-cons s p 0 k, x.is, add-one p); within = omega arith }

-- the constraints of the function whose record's body stands at p
pub record ConstraintsRead (s : List ℕ) (p : ℕ) (v : defs.FunctionView) : Type 0 where
  pub here : p + 6 < length s
  pub sets : SetsRead s (get_or s (p + 6) 0) (p + 7) v.type_parameters

constraints_read : (l : List Signature) (s : List ℕ) (p : ℕ) {v : defs.FunctionView} {e : ℕ} → function_view l s p ≡ read v e → ConstraintsRead s p v
unfolding function_view
constraints_read l s p {v} h =
    let a = parts (signature_of l) _ s p h in
    let b = parts (signature_of l) _ s a.middle a.second in
    let c = parts (signature_of l) _ s b.middle b.second in
    let d = parts byte _ s c.middle c.second in
    let f = parts (many d.value ability) _ s d.middle d.second in
    let x = (signature_read l s p a.first).next_at in
    let y = (signature_read l s a.middle b.first).next_at in
    let z = (signature_read l s b.middle c.first).next_at in
    let m : c.middle ≡ p + 6 = omega arith in
    let n = byte_read s c.middle d.first in
    let w = n.within in
    let o : d.middle ≡ p + 7 = n.next_at ∙ omega arith in
    let i : d.value ≡ get_or s (p + 6) 0 = n.is ∙ ap (λ (j : ℕ). get_or s j 0) m in
    let t : f.value ≡ v.type_parameters = ap (λ (v : defs.FunctionView). v.type_parameters) (made s f.second).0 in
    let r = sets_read s d.value d.middle (omega arith) f.first in
    record { here = omega arith; sets = record { is = sym t ∙ rw (← i, ← o) r.is; within = rw (← i, ← o) r.within } }

front_of : (n : ℕ) (xs a rest : List ℕ) → take n xs ≡ a ++ rest → take (length a) xs ≡ a
front_of n xs [] rest h = refl
front_of zero xs (y ∷ a) rest h = let z : ◌≡◌ {A = ℕ} 0 1 = cc in absurd (omega arith)
front_of (suc n) [] (y ∷ a) rest h = let z : ◌≡◌ {A = ℕ} 0 1 = cc in absurd (omega arith)
front_of (suc n) (x ∷ xs) (y ∷ a) rest h =
    let p : x ≡ y = cc in
    let q : take n xs ≡ a ++ rest = cc in
    ap₂ ◌∷◌ p (front_of n xs a rest q)

module _ {s index : List ℕ} {view : View} (u : UnitRead s index view) where
  constraints_at : ConstraintsRead s (view.function + 1) (compiled_unit u.decoded).function
  unfolding view_of compiled_unit
  constraints_at = rw u.viewed (constraints_read (items u.decoded.signatures) s (u.decoded.function.start + 1) (stand u).function.1)

  -- ── the struct handles ──

  handles_count : view.struct_handles.count ≡ length (starts u.decoded.struct_handles)
  unfolding view_of
  handles_count = rw u.viewed refl

  handles_first : take view.struct_handles.count index ≡ starts u.decoded.struct_handles
  unfolding joined
  handles_first =
      let rest = joined (drop 1 (segments u.decoded)) in
      rw handles_count (front_of (length (joined (segments u.decoded))) index (starts u.decoded.struct_handles) rest u.indexed)

-- ── the context of a look-up ──

module _ (unit : UnitView) where
  -- the count of the constraints is one of the unit's bytes
  pub context_room : unit.view.function + 7 < length unit.bytes.now
  context_room = omega (arith, (constraints_at (unit_read unit)).here)

  pub context_short : length unit.bytes.now ≤ 32768
  context_short = unit_short (unit_read unit)

  pub handles_room : unit.view.struct_handles.count ≤ length unit.index.now
  handles_room = omega (arith, handles_count (unit_read unit), sym (length-take unit.view.struct_handles.count unit.index.now) ∙ ap length (handles_first (unit_read unit)))

  sets_at : {k : ℕ} → k ≡ get_or unit.bytes.now (unit.view.function + 7) 0 → SetsRead unit.bytes.now k (unit.view.function + 8) (compiled unit).function.type_parameters
  sets_at f =
      let q : unit.view.function + 1 + 6 ≡ unit.view.function + 7 = omega arith in
      let r : unit.view.function + 1 + 7 ≡ unit.view.function + 8 = omega arith in
      rw (f, ← q, ← r) (constraints_at (unit_read unit)).sets

  pub constraints_room : {k : ℕ} → k ≡ get_or unit.bytes.now (unit.view.function + 7) 0 → unit.view.function + 8 + k ≤ length unit.bytes.now
  constraints_room f = (sets_at f).within

  pub context_here :
      {n k : ℕ} {r : AbilityTables} → r.unit.now ≡ unit.bytes.now → n ≡ unit.view.struct_handles.count → k ≡ get_or unit.bytes.now (unit.view.function + 7) 0 →
      r.handles.now ≡ take n unit.index.now → r.constraints.now ≡ take (unit.view.function + 8 + k - (unit.view.function + 8)) (drop (unit.view.function + 8) unit.bytes.now) →
      ContextIs unit.bytes.now (compiled unit) r
  unfolding compiled_unit
  context_here {n} {k} g e f x y =
      let z : unit.view.function + 8 + k - (unit.view.function + 8) ≡ k = omega arith in
      record {
        unit_is = g;
        stand = rw (x, e, handles_first (unit_read unit)) (stand (unit_read unit)).struct_handles;
        constraints = (rw z at y) ∙ sym (sets_at f).is;
      }

pub ruleset context_laws = (context_room, context_short, constraints_room)

module _ (unit : UnitView) where
  -- the handles that are taken stand in the unit
  pub handles_stand : HandlesAt unit.bytes.now (take unit.view.struct_handles.count unit.index.now)
  unfolding compiled_unit
  handles_stand = record { struct_handles = (compiled unit).struct_handles; stand = rw (handles_first (unit_read unit)) (stand (unit_read unit)).struct_handles }

module _ {s : List ℕ} {u : defs.CompiledUnit} {c : AbilityTables} (k : ContextIs s u c) where
  abbrev pub context_handles : HandlesAt c.unit.now c.handles.now
  context_handles = record { struct_handles = u.struct_handles; stand = rw k.unit_is k.stand }

  pub abilities_here :
      {ty : List ℕ} {place : ℕ} {r : PartialVMResult AbilitySet} (p : TypeAt ty place) → AbilitiesAt ty place c.unit.now c.handles.now c.constraints.now r →
      AbilitiesIs u p.type r
  unfolding defs_abilities.abilities
  abilities_here p w = record { is = rw k.constraints at (w.answers p context_handles) }

  pub struct_abilities_here :
      {h : ℕ} {l : SignatureView} {r : PartialVMResult AbilitySet} (q : TypesIn l) →
      MaterializedAbilities h l.types.bytes.now l.types.at l.types.count c.unit.now c.handles.now c.constraints.now r →
      AbilitiesIs u (materialize_type h q.types) r
  unfolding defs_abilities.abilities
  struct_abilities_here q w = record { is = rw (k.constraints, list_of_arguments q.types) at (w.answers (types_at q) context_handles) }
