-- The tables of a unit that was read, as a look-up sees them: the index has the place of each record, and the record stands there.
use Rattle.std.proofs.Math.Path.{◌≡◌, refl, sym}
use Rattle.std.proofs.Common.{ap, ◌∙◌, arith, leb→le}
use Rattle.std.specs.Prelude.{Bool, true, false, List, [], leb, T, length, get_or}
use Prim.Native.Nat.{ℕ, zero, suc, ◌+◌, ◌≤◌, ◌<◌}
use Rattle.status.specs.declared.StatusCode.{StatusCode}
use Rattle.status.specs.declared.StatusCode.TheVariants.{OUT_OF_TABLE, TOO_LONG}
use Rattle.definitions.specs.Result.{ok, err, at}
use Rattle.definitions.specs.Commands.{commands_of}
use Rattle.definitions.specs.Reading.{Read, read, stop, Reader}
use Rattle.definitions.specs.Reader.{Decoded, read_unit, compiled_unit, unit, type, types, struct_handle, function_handle, function_instantiation, struct_definition, struct_def_instantiation, field_handle, field_instantiation, block}
use Rattle.definitions.specs.Places.{RecordAt, TableAt, more}
use Rattle.definitions.specs.Places.TableAt.{none as none'}
use Rattle.unit.specs.declared.View.{View}
use Rattle.unit.specs.declared.Table.{Table}
use Rattle.unit.specs.Views.{UnitRead, segments, table_in, view_of}
use Rattle.unit.specs.Entries.{Has, segment_at}
use Rattle.unit.specs.Standing.{UnitStands, unit_stands}

-- ── the words ──

-- the records l of a table: their places are the entries of the index that t says
pub record TableIn {A : Type 0} (body : Reader A) (s index : List ℕ) (t : Table) (l : List A) : Type 0 where
  pub places : List ℕ
  pub stands : TableAt body s places l
  pub counted : t.count ≡ length places
  pub entries : (i : ℕ) → i < length places → Has index (t.base + i) (get_or places i 0)

-- ── a unit that was read ──

-- it is no longer than a unit may be
pub unit_short : {s index : List ℕ} {view : View} → UnitRead s index view → length s ≤ 32768
unfolding read_unit
unit_short {s} u = go (leb (length s) 32768) (leb→le (length s) 32768) u.reads
  where
    go : (b : Bool) → (T b → length s ≤ 32768) → (elim b as (λ (_ : Bool). Read Decoded) [ true ↦ unit s 0 | false ↦ stop TOO_LONG 0 ]) ≡ read u.decoded u.ends → length s ≤ 32768
    go true k h = k tt
    go false k h = let z : ◌≡◌ {A = ℕ} 0 1 = cc in absurd (omega arith)

module _ {s index : List ℕ} {view : View} (u : UnitRead s index view) where
  abbrev pub stand : UnitStands s u.decoded
  stand = unit_stands s u.decoded u.ends u.reads

  -- table k of the index
  nth_table :
      {A : Type 0} {body : Reader A} {l : List A} (k : ℕ) {t : Table} → t ≡ table_in k (segments u.decoded) →
      TableAt body s (get_or (segments u.decoded) k []) l → TableIn body s index t l
  nth_table k q h =
      record {
        places = get_or (segments u.decoded) k [];
        stands = h;
        counted = ap (λ (t : Table). t.count) q;
        entries = λ i m. rw (ap (λ (t : Table). t.base) q) (segment_at u k i m);
      }

  pub struct_handles_in : TableIn struct_handle s index view.struct_handles (compiled_unit u.decoded).struct_handles
  unfolding view_of compiled_unit
  struct_handles_in = nth_table 0 (rw u.viewed refl) stand.struct_handles

  pub signatures_in : TableIn (types (commands_of u.decoded.head)) s index view.signatures (compiled_unit u.decoded).signatures
  unfolding view_of compiled_unit
  signatures_in = nth_table 1 (rw u.viewed refl) stand.signatures

  pub function_handles_in : TableIn function_handle s index view.function_handles (compiled_unit u.decoded).function_handles
  unfolding view_of compiled_unit
  function_handles_in = nth_table 2 (rw u.viewed refl) stand.function_handles

  pub function_instantiations_in : TableIn function_instantiation s index view.function_instantiations (compiled_unit u.decoded).function_instantiations
  unfolding view_of compiled_unit
  function_instantiations_in = nth_table 3 (rw u.viewed refl) stand.function_instantiations

  pub struct_defs_in : TableIn (struct_definition (commands_of u.decoded.head)) s index view.struct_defs (compiled_unit u.decoded).struct_defs
  unfolding view_of compiled_unit
  struct_defs_in = nth_table 4 (rw u.viewed refl) stand.struct_defs

  pub struct_instantiations_in : TableIn struct_def_instantiation s index view.struct_instantiations (compiled_unit u.decoded).struct_instantiations
  unfolding view_of compiled_unit
  struct_instantiations_in = nth_table 5 (rw u.viewed refl) stand.struct_instantiations

  pub field_handles_in : TableIn field_handle s index view.field_handles (compiled_unit u.decoded).field_handles
  unfolding view_of compiled_unit
  field_handles_in = nth_table 6 (rw u.viewed refl) stand.field_handles

  pub field_instantiations_in : TableIn field_instantiation s index view.field_instantiations (compiled_unit u.decoded).field_instantiations
  unfolding view_of compiled_unit
  field_instantiations_in = nth_table 7 (rw u.viewed refl) stand.field_instantiations

  pub constants_in : TableIn (type (commands_of u.decoded.head)) s index view.constants (compiled_unit u.decoded).constants
  unfolding view_of compiled_unit
  constants_in = nth_table 8 (rw u.viewed refl) stand.constants

  pub blocks_in : TableIn block s index view.blocks (compiled_unit u.decoded).blocks
  unfolding view_of compiled_unit
  blocks_in = nth_table 9 (rw u.viewed refl) stand.blocks

-- ── an entry of a table ──

-- the table's entries are within the index
pub record Fits (index : List ℕ) (t : Table) : Type 0 where
  pub there : (i : ℕ) → i < t.count → t.base + i < length index

-- record i and where it stands
pub record Found {A : Type 0} (body : Reader A) (s : List ℕ) (l : List A) (i p : ℕ) : Type 0 where
  pub item : A
  pub is : at l i ≡ ok item
  pub stands : RecordAt body s p item

module _ {A : Type 0} {body : Reader A} {s : List ℕ} where
  nth : {places : List ℕ} {l : List A} → TableAt body s places l → (i : ℕ) → i < length places → Found body s l i (get_or places i 0)
  unfolding at
  nth none' i h = absurd (omega arith)
  nth (more {a = a} r t) zero h = record { item = a; is = refl; stands = r }
  nth (more r t) (suc i) h = let k = nth t i (omega arith) in record { item = k.item; is = k.is; stands = k.stands }

  as_many : {places : List ℕ} {l : List A} → TableAt body s places l → length places ≡ length l
  as_many none' = refl
  as_many (more r t) = ap suc (as_many t)

  nth_past : {places : List ℕ} {l : List A} → TableAt body s places l → (i : ℕ) → length places ≤ i → at l i ≡ err OUT_OF_TABLE
  unfolding at
  nth_past none' i h = refl
  nth_past (more r t) zero h = absurd (omega arith)
  nth_past (more r t) (suc i) h = nth_past t i (omega arith)

module _ {A : Type 0} {body : Reader A} {s index : List ℕ} {t : Table} {l : List A} (k : TableIn body s index t l) where
  pub table_fits : Fits index t
  table_fits = record { there = λ i h. (k.entries i (omega (arith, k.counted))).there }

  pub table_count : t.count ≡ length l
  table_count = k.counted ∙ as_many k.stands

  pub placed : {i : ℕ} → i < t.count → Found body s l i (get_or index (t.base + i) 0)
  placed {i} h =
      let m : i < length k.places = omega (arith, k.counted) in
      rw (sym (k.entries i m).is) at (nth k.stands i m)

  pub past : {i : ℕ} → t.count ≤ i → at l i ≡ err OUT_OF_TABLE
  past h = nth_past k.stands _ (omega (arith, k.counted))

-- the place p is the entry of record i
pub record EntryIs (index : List ℕ) (t : Table) (i p : ℕ) : Type 0 where
  pub below : i < t.count
  pub is : p ≡ get_or index (t.base + i) 0

-- record i of a table stands there
pub found : {A : Type 0} {body : Reader A} {s index : List ℕ} {t : Table} {l : List A} → TableIn body s index t l → {i p : ℕ} → EntryIs index t i p → Found body s l i p
found k e = rw e.is (placed k e.below)

-- v refuses the index i, which is past the table
pub record PastIs (t : Table) (i : ℕ) (v : StatusCode) : Type 0 where
  pub over : t.count ≤ i
  pub is : v ≡ OUT_OF_TABLE

pub refused_past : {A : Type 0} {body : Reader A} {s index : List ℕ} {t : Table} {l : List A} → TableIn body s index t l → {i : ℕ} {v : StatusCode} → PastIs t i v → at l i ≡ err v
refused_past k e = past k e.over ∙ ap err (sym e.is)
