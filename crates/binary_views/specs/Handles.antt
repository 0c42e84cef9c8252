-- What the reading of a struct handle's record says of its bytes: after the command the abilities, then how many parameters there are, then
-- a byte for each, 1 where it is phantom. The reader's steps are undone one by one.
use Rattle.std.specs.Prelude.{◌≡◌, refl, Ok, Bool, true, false, List, [], ◌∷◌, map, ℕ, zero, suc, ◌+◌, ◌≤◌, ◌<◌, ltb, leb, eqb, length, get_or, take, drop}
use Rattle.std.proofs.Common.{sym, ap, ◌∙◌, arith, add-one, drop-cons, ltb-true}
use Rattle.status.specs.declared.StatusCode.{StatusCode}
use Rattle.status.specs.declared.StatusCode.TheVariants.{SHORT, VALUE}
use Rattle.definitions.specs.CompiledUnit.{StructHandle, StructTypeParameter}
use Rattle.definitions.specs.Abilities.{is_phantom_of}
use Rattle.definitions.specs.Reading.{Read, read, stop, next, ◌>>=◌, ◌>>◌, give, here, need, byte, many}
use Rattle.definitions.specs.Reader.{byte_up_to, ability, struct_type_parameter, struct_handle}
use Rattle.definitions.specs.Places.{RecordAt, TableAt}
use Rattle.std.proofs.Math.Logic.{∥∥₁_elim}
use Rattle.std.specs.Coded.{le_prop}
use Rattle.file_format.specs.AbilitySet.{is_phantom_byte}
use Rattle.binary_views.specs.Tables.{PlaceAt, entry_at}

-- ── the words ──

-- some struct handle's record stands at p
pub record HandleAt (unit : List ℕ) (p : ℕ) : Type 0 where
  pub handle : StructHandle
  pub stands : RecordAt struct_handle unit p handle

-- some struct handles stand at the places
pub record HandlesAt (unit places : List ℕ) : Type 0 where
  pub struct_handles : List StructHandle
  pub stand : TableAt struct_handle unit places struct_handles

-- a struct handle's bytes
pub record HandleBytes (unit : List ℕ) (p : ℕ) (h : StructHandle) : Type 0 where
  pub abilities : get_or unit (p + 1) 0 ≡ h.abilities
  pub counted : get_or unit (p + 2) 0 ≡ length h.type_parameters
  pub phantoms : map is_phantom_byte (take (length h.type_parameters) (drop (p + 3) unit)) ≡ map is_phantom_of h.type_parameters
  pub within : p + 3 + length h.type_parameters ≤ length unit

-- ── the reader's steps, undone ──

-- what was read in two steps was read by each
pub record Steps {A B : Type 0} (m : Read A) (f : A → ℕ → Read B) (b : B) (e : ℕ) : Type 0 where
  pub value : A
  pub place : ℕ
  pub first : m ≡ read value place
  pub second : f value place ≡ read b e

pub next_steps : {A B : Type 0} {f : A → ℕ → Read B} {b : B} {e : ℕ} (m : Read A) → next m f ≡ read b e → Steps m f b e
unfolding next
next_steps (read a x) k = record { value = a; place = x; first = refl; second = k }
next_steps (stop z x) k = let y : ◌≡◌ {A = ℕ} 0 1 = cc in absurd (omega arith)

-- a byte that was read
pub record ByteRead (s : List ℕ) (at b e : ℕ) : Type 0 where
  pub is : get_or s at 0 ≡ b
  pub within : at < length s
  pub after : e ≡ at + 1

pub byte_read : {s : List ℕ} {at b e : ℕ} → byte s at ≡ read b e → ByteRead s at b e
unfolding byte
byte_read {s} {at} {b} {e} k = go (ltb at (length s)) refl k
  where
    go : (t : Bool) → ltb at (length s) ≡ t → elim t [ true ↦ read (get_or s at 0) (at + 1) | false ↦ stop SHORT (length s) ] ≡ read b e → ByteRead s at b e
    go true l k = let z : get_or s at 0 ≡ b = cc in let y : e ≡ at + 1 = cc in record { is = z; within = ltb-true at (length s) l; after = y }
    go false l k = let z : ◌≡◌ {A = ℕ} 0 1 = cc in absurd (omega arith)

need_read : (c : Bool) (z : StatusCode) (p : ℕ) (s : List ℕ) (x : ℕ) {y : ℕ} {u : Unit {0}} → need c z p s x ≡ read u y → y ≡ x
unfolding need
need_read true z p s x k = cc
need_read false z p s x k = let y : ◌≡◌ {A = ℕ} 0 1 = cc in absurd (omega arith)

pub byte_up_to_read : (most : ℕ) {s : List ℕ} {at b e : ℕ} → byte_up_to most s at ≡ read b e → ByteRead s at b e
unfolding byte_up_to ◌>>=◌ ◌>>◌ next here give
byte_up_to_read most {s} {at} {b} {e} k =
    let x = next_steps (byte s at) k in
    let y = next_steps (need (leb x.value most) VALUE at s x.place) x.second in
    let r = byte_read x.first in
    let q = need_read (leb x.value most) VALUE at s x.place y.first in
    let z : x.value ≡ b = cc in
    let w : y.place ≡ e = cc in
    record { is = r.is ∙ z; within = r.within; after = sym w ∙ q ∙ r.after }

-- a struct's parameter is its byte
parameter_read : {s : List ℕ} {at e : ℕ} {a : StructTypeParameter} → struct_type_parameter s at ≡ read a e → ByteRead s at (get_or s at 0) e × (is_phantom_byte (get_or s at 0) ≡ a.is_phantom)
unfolding struct_type_parameter ◌>>=◌ next give
parameter_read {s} {at} {e} {a} k =
    let x = next_steps (byte_up_to 1 s at) k in
    let r = byte_up_to_read 1 x.first in
    let z : record { is_phantom = eqb x.value 1 } ≡ a = cc in
    let w : x.place ≡ e = cc in
    (record { is = refl; within = r.within; after = sym w ∙ r.after }, ap is_phantom_byte r.is ∙ ap is_phantom_of z)

-- parameters that were read, n of them
pub record ParametersRead (s : List ℕ) (at n : ℕ) (ps : List StructTypeParameter) : Type 0 where
  pub counted : length ps ≡ n
  pub phantoms : map is_phantom_byte (take n (drop at s)) ≡ map is_phantom_of ps
  pub within : at + n ≤ length s

pub parameters_read :
    (n : ℕ) {s : List ℕ} {at e : ℕ} {ps : List StructTypeParameter} → many n struct_type_parameter s at ≡ read ps e → at ≤ length s →
    ParametersRead s at n ps
unfolding many ◌>>=◌ next give
parameters_read zero {s} {at} {e} {ps} k l = let z : ps ≡ [] = cc in record { counted = ap length z; phantoms = rw z; within = omega arith }
parameters_read (suc n) {s} {at} {e} {ps} k l =
    let x = next_steps (struct_type_parameter s at) k in
    let y = next_steps (many n struct_type_parameter s x.place) x.second in
    let r = parameter_read x.first in
    let f = r.0.after in
    let b = r.0.within in
    let i = parameters_read n y.first (omega arith) in
    let g = i.within in
    let z : x.value ∷ y.value ≡ ps = cc in
    record {
      counted = sym (ap length z) ∙ ap suc i.counted;
      phantoms = rw (drop-cons s at 0 b, ← z, r.1, ← i.phantoms, f, add-one at);
      within = omega arith;
    }

-- ── the law ──

pub handle_bytes : {unit : List ℕ} {p : ℕ} {h : StructHandle} → RecordAt struct_handle unit p h → HandleBytes unit p h
unfolding struct_handle ability ◌>>=◌ next give
handle_bytes {unit} {p} {h} r =
    let x = next_steps (byte_up_to 15 unit (p + 1)) r.reads in
    let y = next_steps (byte unit x.place) x.second in
    let z = next_steps (many y.value struct_type_parameter unit y.place) y.second in
    let a = byte_up_to_read 15 x.first in
    let n = byte_read y.first in
    let l = n.within in
    let u : x.place ≡ p + 2 = a.after ∙ omega arith in
    let v : y.place ≡ p + 3 = n.after ∙ omega arith in
    let ps = parameters_read y.value z.first (omega arith) in
    let q : record { abilities = x.value; type_parameters = z.value } ≡ h = cc in
    rw (← q) (record {
      abilities = a.is;
      counted = rw (← u) (n.is ∙ sym ps.counted);
      phantoms = rw (ps.counted, ← v) ps.phantoms;
      within = rw (ps.counted, ← v) ps.within;
    })

-- a handle that was looked up stands there
pub handle_found : {unit handles : List ℕ} {i p : ℕ} → HandlesAt unit handles → PlaceAt handles i (Ok p) → HandleAt unit p
handle_found h e = let k = entry_at h.stand e in record { handle = k.item; stands = k.stands }

-- and it ends within the unit
pub handle_room : {unit handles : List ℕ} {i p : ℕ} → ∥ HandlesAt unit handles ∥₁ → PlaceAt handles i (Ok p) → p + 3 + get_or unit (p + 2) 0 ≤ length unit
handle_room {unit} {handles} {i} {p} h e =
    ∥∥₁_elim h le_prop (λ (h : HandlesAt unit handles). let b = handle_bytes (handle_found h e).stands in omega (arith, b.counted, b.within))
