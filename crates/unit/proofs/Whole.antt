-- A unit under its head, and a whole unit, as the functions read them: one law for each way that they go.
use mathlib.Core.Path.{◌≡◌, refl, sym, ap, ◌∙◌}
use mathlib.Core.List.{List, ◌++◌, append_assoc, append-nil}
use Prim.Native.Nat.{ℕ, zero, suc, ◌+◌, ◌-◌, ◌≤◌, ◌<◌}
use native.Mathlib.Omega.{arith}
use borrow.Author.Tests.{le-leb, lt-leb}
use lib.ListN.{length, get_or, take, length-append, length-map}
use Rattle.status.specs.declared.StatusCode.TheVariants.{TOO_LONG, SHORT, COMMAND}
use Rattle.definitions.specs.SignatureToken.{Signature}
use Rattle.definitions.specs.CompiledUnit as defs
use Rattle.definitions.specs.Reading.{Read, read, stop, next, ◌>>=◌, ◌>>◌, give, fail, here}
use Rattle.definitions.specs.Commands.{Commands, commands_of}
use Rattle.definitions.specs.Reader.{Decoded, items, due, function_view, unit_under, unit_after_head, head_command, HeadCommand, unopened, unit, read_unit}
use Rattle.std.specs.Prelude.{Result, Ok, Err}
use Rattle.record_reader.specs.declared.ReadError.{ReadError}
use Rattle.record_reader.specs.ReadTo.{read_to}
use Rattle.record_reader.specs.Alike.{byte_next, byte_short}
use Rattle.record_reader.specs.Ends.{reads_within, function_view_reaches}
use Rattle.unit.specs.declared.Head.{Head}
use Rattle.unit.specs.declared.Table.{Table}
use Rattle.unit.specs.declared.View.{View}
use Rattle.unit.specs.declared.Listing.{Listing}
use Rattle.unit.specs.Outline.{starts, joined, base_from, table_places, UnitTables, unit_tables, places_of, UnitListing, unit_listing, in_listing}
use Rattle.unit.specs.Filled.{head_of, Room, Filled, FilledBy, Rows, RowsBy, listing_of}
use Rattle.unit.specs.Views.{head_for, segments, table_in, table_at, Ordered, view_from, view_of, answer_of, Indexed}
use Rattle.unit.specs.Parts.{decoded, unit_in_parts, unit_in_parts_law, tables_forgotten}
use Rattle.unit.specs.Stand.{due_got}
use Rattle.unit.proofs.Rows.{row, row_end, rows_ordered}
use Rattle.unit.proofs.Filling.{filled_then, room_after, room_later}

-- ── what the calls answered ──

-- the tables were read
pub record GotTables (s before after bases : List ℕ) (commands : Commands) (e : ℕ) : Type 0 where
  pub tables : UnitTables
  pub reads : unit_tables commands s 1 ≡ read tables e
  pub rows : Rows bases (places_of tables)
  pub filled : Filled s 0 before (joined (places_of tables)) e after
  pub long : length after ≡ length before

module _ (s : List ℕ) (commands : Commands) {r : Result ℕ ReadError} (q : r ≡ read_to (table_places commands s 1)) where
  z : next (unit_tables commands s 1) (λ t e. read (places_of t) e) ≡ table_places commands s 1
  z = tables_forgotten commands s 1

  pub got_tables :
      {before after bases : List ℕ} → FilledBy joined s 0 before (table_places commands s 1) after → RowsBy (table_places commands s 1) bases →
      length after ≡ length before → {e : ℕ} → r ≡ Ok e → GotTables s before after bases commands e
  unfolding read_to FilledBy RowsBy next
  got_tables {before} {after} {bases} f o long {e} k = go (unit_tables commands s 1) refl (q ∙ ap read_to (sym z)) (rw (← z) at f) (rw (← z) at o)
    where
      go : (x : Read UnitTables) → unit_tables commands s 1 ≡ x → r ≡ read_to (next x (λ t e. read (places_of t) e)) →
          FilledBy joined s 0 before (next x (λ t e. read (places_of t) e)) after → RowsBy (next x (λ t e. read (places_of t) e)) bases →
          GotTables s before after bases commands e
      go (read u d) p q f o =
          let y : d ≡ e = cc in
          record { tables = u; reads = p ∙ ap (read u) y; rows = o; filled = rw y at f; long = long }
      go (stop w v) p q f o = let y : ◌≡◌ {A = ℕ} 0 1 = cc in absurd (omega arith)

  pub refused_tables : {w : ReadError} → r ≡ Err w → unit_tables commands s 1 ≡ stop w.status w.at
  unfolding read_to next
  refused_tables {w} k = go (unit_tables commands s 1) (q ∙ ap read_to (sym z))
    where
      go : (x : Read UnitTables) → r ≡ read_to (next x (λ t e. read (places_of t) e)) → x ≡ stop w.status w.at
      go (read u d) q = let y : ◌≡◌ {A = ℕ} 0 1 = cc in absurd (omega arith)
      go (stop v o) q = cc

-- the listing was read
pub record GotListing (s before after : List ℕ) (base : ℕ) (x : Read UnitListing) (blocks code : ℕ) : Type 0 where
  pub listing : UnitListing
  pub end : ℕ
  pub reads : x ≡ read listing end
  pub block_count : length (starts listing.blocks) ≡ blocks
  pub code_count : length (starts listing.code) ≡ code
  pub filled : Filled s base before (in_listing listing) end after

module _ (x : Read UnitListing) {r : Result Listing ReadError} (q : r ≡ listing_of x) where
  pub got_listing :
      {s before after : List ℕ} {base : ℕ} → FilledBy in_listing s base before x after → {c : Listing} → r ≡ Ok c →
      GotListing s before after base x c.blocks c.code
  unfolding listing_of FilledBy
  got_listing {s} {before} {after} {base} f {c} k = go x q f
    where
      go : (y : Read UnitListing) → r ≡ listing_of y → FilledBy in_listing s base before y after → GotListing s before after base y c.blocks c.code
      go (read l d) q f =
          let z : c ≡ record { blocks = length (starts l.blocks); code = length (starts l.code) } = cc in
          record {
            listing = l;
            end = d;
            reads = refl;
            block_count = sym (ap (λ (c : Listing). c.blocks) z);
            code_count = sym (ap (λ (c : Listing). c.code) z);
            filled = f;
          }
      go (stop w p) q f = let z : ◌≡◌ {A = ℕ} 0 1 = cc in absurd (omega arith)

  pub refused_listing : {w : ReadError} → r ≡ Err w → x ≡ stop w.status w.at
  unfolding listing_of
  refused_listing {w} k = go x q
    where
      go : (y : Read UnitListing) → r ≡ listing_of y → y ≡ stop w.status w.at
      go (read l d) q = let z : ◌≡◌ {A = ℕ} 0 1 = cc in absurd (omega arith)
      go (stop v o) q = cc

-- ── a unit after its head ──

same_head : (h : Head) → head_for (head_of h) ≡ h
same_head Head.Module = refl
same_head Head.Script = refl

-- the answer and the index after a refusal
abbrev UnitRefused : Read Decoded → List ℕ → ReadError → Type 0
UnitRefused x index w = (Err w ≡ answer_of x) × Indexed x index

pub unit_refused : {w : ReadError} (index : List ℕ) (x : Read Decoded) → x ≡ stop w.status w.at → UnitRefused x index w
unfolding answer_of Indexed
unit_refused index x q = rw q (refl, tt)

module _ (head : defs.Head) (s : List ℕ) where
  pub under_refused_1 : {w : ReadError} (index : List ℕ) → unit_tables (commands_of head) s 1 ≡ stop w.status w.at → UnitRefused (unit_under head s 1) index w
  unfolding unit_in_parts ◌>>=◌ next answer_of Indexed
  under_refused_1 index q = rw (unit_in_parts_law head s 1, q) (refl, tt)

  module _ {before m1 bases : List ℕ} {e1 : ℕ} (g1 : GotTables s before m1 bases (commands_of head) e1) where
    abbrev signatures : List Signature
    signatures = items g1.tables.signatures

    pub under_refused_2 : {w : ReadError} (index : List ℕ) → due (commands_of head) 0x19 s e1 ≡ stop w.status w.at → UnitRefused (unit_under head s 1) index w
    unfolding unit_in_parts ◌>>=◌ ◌>>◌ next here answer_of Indexed
    under_refused_2 index q = rw (unit_in_parts_law head s 1, g1.reads, q) (refl, tt)

    -- there are nine, and they lie within the index
    nine : length (places_of g1.tables) ≡ 9
    unfolding places_of
    nine = refl

    pub tables_end : get_or bases 9 0 ≡ length (joined (places_of g1.tables))
    tables_end = row_end g1.rows nine

    pub tables_ordered : Room s 1 0 before → Ordered bases
    tables_ordered room = rows_ordered g1.rows nine (omega (arith, g1.filled.below, g1.filled.inside, room.small))

    -- how many signatures there are
    pub signature_count_law : length signatures ≡ get_or bases 2 0 - get_or bases 1 0
    unfolding places_of starts items
    signature_count_law =
        let x = ap (λ (t : Table). t.count) (row g1.rows 1 (omega (arith, nine))) in
        length-map g1.tables.signatures _ ∙ sym (x ∙ length-map g1.tables.signatures _)

    module _ {u : Unit {0}} {e2 : ℕ} (d : due (commands_of head) 0x19 s e1 ≡ read u e2) where
      pub under_refused_3 : {w : ReadError} (index : List ℕ) → function_view signatures s e2 ≡ stop w.status w.at → UnitRefused (unit_under head s 1) index w
      unfolding unit_in_parts ◌>>=◌ ◌>>◌ next here answer_of Indexed
      under_refused_3 index q = rw (unit_in_parts_law head s 1, g1.reads, d, q) (refl, tt)

      module _ {view : defs.FunctionView} {e3 : ℕ} (f : function_view signatures s e2 ≡ read view e3) where
        pub under_refused_4 :
            {w : ReadError} (index : List ℕ) → unit_listing (commands_of head) s e3 ≡ stop w.status w.at → UnitRefused (unit_under head s 1) index w
        unfolding unit_in_parts ◌>>=◌ ◌>>◌ next here answer_of Indexed
        under_refused_4 index q = rw (unit_in_parts_law head s 1, g1.reads, d, f, q) (refl, tt)

        -- there is room for the listing
        pub listing_room : Room s 1 0 before → Room s e3 (get_or bases 9 0) m1
        listing_room room =
            let x = due_got (commands_of head) 0x19 s e1 d in
            let y = reads_within (function_view_reaches signatures) s e2 (omega arith) f in
            let z : get_or bases 9 0 ≡ 0 + length (joined (places_of g1.tables)) = tables_end ∙ omega arith in
            room_later (room_after g1.filled room g1.long (get_or bases 9 0) z) (omega (arith, y.far)) y.within

        module _ {m2 : List ℕ} {n m : ℕ} (g3 : GotListing s m1 m2 (get_or bases 9 0) (unit_listing (commands_of head) s e3) n m) where
          abbrev read_there : Decoded
          read_there = decoded head g1.tables e1 view g3.listing

          under_reads : unit_under head s 1 ≡ read read_there g3.end
          unfolding unit_in_parts ◌>>=◌ ◌>>◌ next here give
          under_reads = unit_in_parts_law head s 1 ∙ rw (g1.reads, d, f, g3.reads)

          -- the index has room for all
          pub counts_fit : length s ≤ 32768 → get_or bases 9 0 + n + m ≤ 32768
          unfolding in_listing
          counts_fit small =
              let a = length-append (starts g3.listing.blocks) (starts g3.listing.code) in
              omega (arith, g3.filled.below, g3.filled.inside, g3.block_count, g3.code_count)

          under_filled : take (length (joined (segments read_there))) m2 ≡ joined (segments read_there)
          unfolding joined decoded places_of in_listing
          under_filled =
              let z : get_or bases 9 0 ≡ 0 + length (joined (places_of g1.tables)) = tables_end ∙ omega arith in
              let x : joined (places_of g1.tables) ++ in_listing g3.listing ≡ joined (segments read_there) = simp (append_assoc, append-nil) in
              let k : 0 + length (joined (segments read_there)) ≡ length (joined (segments read_there)) = omega arith in
              rw k at (rw x at (filled_then g1.filled z g3.filled)).placed

          pub under_answers :
              {v : View} (h : Head) → head ≡ head_of h → v ≡ view_from h bases e1 n m →
              (Ok v ≡ answer_of (unit_under head s 1)) × Indexed (unit_under head s 1) m2
          unfolding answer_of Indexed view_of decoded places_of base_from
          under_answers {v} h r k =
              let x : head_for head ≡ h = ap head_for r ∙ same_head h in
              let at : (i : ℕ) → i < 9 → table_at bases i ≡ table_in i (places_of g1.tables) = λ i l. row g1.rows i (omega (arith, nine)) in
              let a = at 0 (omega arith) in
              let b = at 1 (omega arith) in
              let c = at 2 (omega arith) in
              let d = at 3 (omega arith) in
              let e = at 4 (omega arith) in
              let f = at 5 (omega arith) in
              let g = at 6 (omega arith) in
              let i = at 7 (omega arith) in
              let j = at 8 (omega arith) in
              let last = g1.rows.begin 9 (omega (arith, nine)) in
              let bs = g3.block_count in
              let cs = g3.code_count in
              let w : v ≡ view_of read_there = k ∙ cc in
              rw under_reads (ap Ok w, under_filled)

-- ── a whole unit ──

pub read_long : (s : List ℕ) → 32768 < length s → read_unit s ≡ stop TOO_LONG 0
unfolding read_unit
read_long s h = rw (lt-leb (length s) 32768 h, read_unit)

module _ (s : List ℕ) (l : length s ≤ 32768) where
  pub read_empty : length s ≤ 0 → read_unit s ≡ stop SHORT (length s)
  unfolding read_unit unit ◌>>=◌ next
  read_empty h = let z : read_unit s ≡ unit s 0 = rw (le-leb (length s) 32768 l, read_unit) in z ∙ rw (byte_short s 0 h)

  module _ (h : 0 < length s) where
    read_after : read_unit s ≡ unit_after_head (head_command (get_or s 0 0)) s 1
    unfolding read_unit unit ◌>>=◌ next
    read_after = let z : read_unit s ≡ unit s 0 = rw (le-leb (length s) 32768 l, read_unit) in z ∙ rw (byte_next s 0 h)

    pub read_module : get_or s 0 0 ≡ 1 → read_unit s ≡ unit_under defs.Module s 1
    unfolding unit_after_head
    read_module q = read_after ∙ rw q

    pub read_script : get_or s 0 0 ≡ 2 → read_unit s ≡ unit_under defs.Script s 1
    unfolding unit_after_head
    read_script q = read_after ∙ rw q

    pub read_unopened : (get_or s 0 0 ≡ 1 → ⊥) → (get_or s 0 0 ≡ 2 → ⊥) → read_unit s ≡ stop COMMAND 0
    unfolding unit_after_head fail
    read_unopened a b = read_after ∙ ap (λ (c : HeadCommand). unit_after_head c s 1) (go (get_or s 0 0) a b)
      where
        go : (c : ℕ) → (c ≡ 1 → ⊥) → (c ≡ 2 → ⊥) → head_command c ≡ unopened
        go zero a b = refl
        go (suc zero) a b = absurd (a refl)
        go (suc (suc zero)) a b = absurd (b refl)
        go (suc (suc (suc c))) a b = refl

-- what was read under the head was read of the unit
pub read_as :
    {r : Result View ReadError} {x : Read Decoded} (index : List ℕ) (y : Read Decoded) → y ≡ x → r ≡ answer_of x → Indexed x index → (r ≡ answer_of y) × Indexed y index
read_as index y q a i = rw q (a, i)
