-- The loop over the commands of the tables: what holds at its head, and what each way out of a turn says of the tables.
use mathlib.Core.Path.{◌≡◌, refl, sym, ap, ◌∙◌}
use mathlib.Core.List.{List, [], ◌∷◌, ◌++◌, append-nil}
use Prim.Native.Nat.{ℕ, zero, suc, ◌+◌, ◌-◌, ◌≤◌, ◌<◌}
use native.Mathlib.Omega.{arith}
use lib.ListN.{length, get_or, set, replicate, length-append, length-replicate}
use Rattle.status.specs.declared.StatusCode.{StatusCode}
use Rattle.definitions.specs.Reading.{read, stop, next, ◌>>=◌, give}
use Rattle.definitions.specs.Commands.{Commands}
use Rattle.std.specs.Prelude.{Result, Ok, Err}
use Rattle.record_reader.specs.declared.ReadError.{ReadError}
use Rattle.record_reader.specs.ReadTo.{read_to}
use Rattle.unit.specs.Outline.{joined, base_from, record_places, tables_within, table_places}
use Rattle.unit.specs.Filled.{Room, Filled, FilledBy, Rows, RowsBy}
use Rattle.unit.proofs.TableLoop.{onto, onto_one, onto_none, filled_none}
use Rattle.unit.proofs.Rows.{joined_one, rows_one}
use Rattle.unit.proofs.Filling.{Got, filled_then}

-- ── the loop ──

-- the tables of i commands were read, and where each begins is in bases
pub record InTables (commands : Commands) (s before after bases : List ℕ) (at base i : ℕ) : Type 0 where
  pub acc : List (List ℕ)
  pub whole : table_places commands s 1 ≡ onto acc (tables_within commands (9 - i) (0x10 + i) s at)
  pub size : length acc ≡ i
  pub upto : i ≤ 9
  pub rows : Rows bases acc
  pub filled : Filled s 0 before (joined acc) at after
  pub behind : base ≡ length (joined acc)
  pub first : Room s 1 0 before
  pub room : Room s at base after
  pub long : length after ≡ length before

-- how many bases there are
pub ten : {bases : List ℕ} → bases ≡ replicate 10 0 → length bases ≡ 10
ten q = ap length q ∙ length-replicate {A = ℕ} 10 0

pub tables_start : (commands : Commands) {s index bases : List ℕ} → Room s 1 0 index → bases ≡ replicate 10 0 → InTables commands s index index bases 1 0 0
unfolding table_places joined base_from
tables_start commands {s} {index} {bases} room q =
    record {
      acc = [];
      whole = onto_none (tables_within commands 9 0x10 s 1);
      size = refl;
      upto = omega arith;
      rows = record { size = ten q; begin = λ i h. ap (λ (l : List ℕ). get_or l i 0) q ∙ first i h };
      filled = filled_none room;
      behind = refl;
      first = room;
      room = room;
      long = refl;
    }
  where
    first : (i : ℕ) → i ≤ 0 → get_or (replicate 10 0) i 0 ≡ base_from 0 i []
    first zero h = refl
    first (suc i) h = absurd (omega arith)

module _ {commands : Commands} {s before after bases : List ℕ} {at base i : ℕ} (v : InTables commands s before after bases at base i) where
  module _ (l : i < 9) where
    turn :
        tables_within commands (9 - i) (0x10 + i) s at
        ≡ next (record_places commands (0x10 + i) s at) (λ ps e. next (tables_within commands (9 - (i + 1)) (0x10 + (i + 1)) s e) (λ ls d. read (ps ∷ ls) d))
    unfolding tables_within ◌>>=◌ give
    turn =
        let z : 9 - i ≡ suc (9 - (i + 1)) = omega arith in
        let y : 0x10 + (i + 1) ≡ 0x10 + i + 1 = omega arith in
        rw (z, y) refl

    pub tables_more :
        {after' : List ℕ} {count e : ℕ} → Got s after after' base (record_places commands (0x10 + i) s at) count e →
        InTables commands s before after' (set bases (i + 1) (base + count)) e (base + count) (i + 1)
    unfolding next
    tables_more {after'} {count} {e} g =
        let b : base ≡ 0 + length (joined v.acc) = v.behind ∙ omega arith in
        let n : base + count ≡ length (joined v.acc) + length g.got = omega (arith, v.behind, g.counted) in
        record {
          acc = v.acc ++ (g.got ∷ []);
          whole =
              v.whole ∙ ap (onto v.acc) (turn ∙ rw g.reads)
              ∙ onto_one v.acc g.got (tables_within commands (9 - (i + 1)) (0x10 + (i + 1)) s e);
          size = length-append v.acc (g.got ∷ []) ∙ omega (arith, v.size);
          upto = omega arith;
          rows = rw v.size at (rows_one v.rows g.got (omega (arith, v.size)) n);
          filled = rw (joined_one v.acc g.got) (filled_then v.filled b g.filled);
          behind = n ∙ rw (joined_one v.acc g.got) (sym (length-append (joined v.acc) g.got));
          first = v.first;
          room = g.room;
          long = g.long ∙ v.long;
        }

    pub tables_refused : {w : StatusCode} {p : ℕ} → record_places commands (0x10 + i) s at ≡ stop w p → table_places commands s 1 ≡ stop w p
    unfolding onto next
    tables_refused r = v.whole ∙ rw (turn, r)

  pub tables_done : 9 ≤ i → table_places commands s 1 ≡ read v.acc at
  unfolding tables_within onto next give
  tables_done h = let z : 9 - i ≡ 0 = omega arith in v.whole ∙ rw z (rw append-nil)

-- ── what the function answers ──

-- the answer, the index and the bases
abbrev Answered : Commands → (s before after bases : List ℕ) → Result ℕ ReadError → Type 0
Answered commands s before after bases r =
    (r ≡ read_to (table_places commands s 1)) × (FilledBy joined s 0 before (table_places commands s 1) after × RowsBy (table_places commands s 1) bases)

module _ (commands : Commands) (s before : List ℕ) where
  pub tables_answer_refused :
      (after bases : List ℕ) {w : ReadError} → table_places commands s 1 ≡ stop w.status w.at → Answered commands s before after bases (Err w)
  unfolding read_to FilledBy RowsBy
  tables_answer_refused after bases q = rw q (refl, (tt, tt))

  pub tables_answer :
      {after bases : List ℕ} {at base i : ℕ} (v : InTables commands s before after bases at base i) → 9 ≤ i →
      Answered commands s before after bases (Ok at)
  unfolding read_to FilledBy RowsBy
  tables_answer v h = rw (tables_done v h) (refl, (v.filled, v.rows))
