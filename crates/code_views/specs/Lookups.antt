-- What stands at the place of a block and of an instruction.
use Rattle.std.specs.Prelude.{◌≡◌, List, [], ◌∷◌, ℕ, zero, suc, ◌+◌, ◌<◌}
use Rattle.std.proofs.Math.Path.{refl, sym, ap, ap₂}
use Rattle.std.proofs.Common.{◌∙◌, arith}
use Rattle.std.proofs.Math.ListN.{length, get_or}
use Rattle.std.proofs.lemmas.List.{length-map}
use Rattle.definitions.specs.Result.{ok, at}
use Rattle.definitions.specs.Bytecode.{Bytecode, Nop}
use Rattle.definitions.specs.Reading.{Placed}
use Rattle.definitions.specs.Reader.{compiled_unit, items, block}
use Rattle.record_reader.specs.Apart.{u16_of, number_of, pair_read}
use Rattle.record_views.specs.declared.Instruction.{Instruction}
use Rattle.record_views.specs.Records.{InstructionHere, InstructionIs}
use Rattle.record_views.specs.Reread.{reread, is_here}
use Rattle.unit.specs.Outline.{starts, base_from}
use Rattle.unit.specs.Entries.{Has, segment_at}
use Rattle.unit.specs.declared.View.{View}
use Rattle.unit.specs.Views.{UnitRead, segments, view_of}
use Rattle.unit_tables.specs.declared.UnitView.{UnitView}
use Rattle.unit_tables.specs.Compiled.{unit_read, compiled}
use Rattle.unit_tables.specs.Tables.{Fits, EntryIs, table_fits, stand, blocks_in, found}
use Rattle.code_views.specs.Answers.{BlockAt, opcode_byte, InstructionAt, OpcodeAt}

module _ {s index : List ℕ} {view : View} (u : UnitRead s index view) where
  -- the code has as many instructions as the view says
  code_count : view.code.count ≡ length u.decoded.code
  unfolding view_of starts
  code_count = rw u.viewed (length-map u.decoded.code _)

  code_entries : (i : ℕ) → i < view.code.count → Has index (view.code.base + i) (get_or (starts u.decoded.code) i 0)
  unfolding view_of
  code_entries i h =
      let b : view.code.base ≡ base_from 0 10 (segments u.decoded) = rw u.viewed refl in
      let m : i < length (starts u.decoded.code) = rw u.viewed at h in
      rw b (segment_at u 10 i m)

-- ── blocks ──

module _ (unit : UnitView) where
  pub blocks_fit : Fits unit.index.now unit.view.blocks
  blocks_fit = table_fits (blocks_in (unit_read unit))

  module _ {i p : ℕ} (w : EntryIs unit.index.now unit.view.blocks i p) where
    pub block_room : p + 4 < length unit.bytes.now
    unfolding block
    block_room = let x = found (blocks_in (unit_read unit)) w in omega (arith, (pair_read _ _ (p + 1) x.stands.reads).within)

    pub block_here : {a b : ℕ} → a ≡ u16_of unit.bytes.now (p + 1) → b ≡ u16_of unit.bytes.now (p + 3) → BlockAt unit i (record { first = a; last = b })
    unfolding block compiled_unit
    block_here {a} {b} f l =
        let x = found (blocks_in (unit_read unit)) w in
        let k : at (compiled unit).blocks i ≡ ok (record { first = a; last = b }) = x.is ∙ ap ok ((pair_read _ _ (p + 1) x.stands.reads).is ∙ ap₂ (λ (a b : ℕ). record { first = a; last = b }) (sym f) (ap (u16_of unit.bytes.now) (omega arith) ∙ sym l)) in
        let o = (stand (unit_read unit)).ordered.ordered i (record { first = a; last = b }) k in
        record { is = k; ordered = o.0; within = rw (code_count (unit_read unit)) o.1 }

-- ── instructions ──

nth_placed :
    {A : Type 0} (l : List (Placed A)) (i : ℕ) (a : Placed A) → i < length l → (at (items l) i ≡ ok (get_or l i a).item) × (get_or (starts l) i 0 ≡ (get_or l i a).start)
unfolding at items starts
nth_placed [] i a h = absurd (omega arith)
nth_placed (x ∷ l) zero a h = (refl, refl)
nth_placed (x ∷ l) (suc i) a h = nth_placed l i a (omega arith)

module _ (unit : UnitView) where
  pub code_fits : Fits unit.index.now unit.view.code
  code_fits = record { there = λ i h. (code_entries (unit_read unit) i h).there }

  module _ {i p : ℕ} (w : EntryIs unit.index.now unit.view.code i p) where
    first : Placed Bytecode
    first = record { start = 0; item = Nop }

    code_placed : i < length (unit_read unit).decoded.code
    code_placed = omega (arith, w.below, code_count (unit_read unit))

    start_is : (get_or (unit_read unit).decoded.code i first).start ≡ p
    start_is = sym (nth_placed (unit_read unit).decoded.code i first code_placed).1 ∙ sym (code_entries (unit_read unit) i w.below).is ∙ sym w.is

    pub instruction_here : InstructionHere unit.bytes.now p
    instruction_here =
        let u = unit_read unit in
        let k = (stand u).code.stands i code_placed first in
        record { head = u.decoded.head; instruction = (get_or u.decoded.code i first).item; ends = k.0; reads = rw start_is at k.1 }

    pub instruction_is : {r : Instruction} → ((k : InstructionHere unit.bytes.now p) → InstructionIs k r) → InstructionAt (compiled unit) i (opcode_byte unit i) r
    unfolding compiled_unit instruction_here opcode_byte
    instruction_is k = record {
      known = (k instruction_here).known;
      opcode = (k instruction_here).opcode ∙ ap (λ (x : ℕ). get_or unit.bytes.now x 0) w.is;
      is = (nth_placed (unit_read unit).decoded.code i first code_placed).0 ∙ ap ok (k instruction_here).is;
    }

    -- the byte at its place is one of the unit
    pub opcode_within : p < length unit.bytes.now
    opcode_within = (reread instruction_here).within

    -- and its opcode: the instruction has that and whatever operands stand behind it
    pub opcode_is : OpcodeAt (compiled unit) i (opcode_byte unit i) (get_or unit.bytes.now p 0)
    opcode_is =
        let s = unit.bytes.now in
        let a = instruction_is {r = record { opcode = get_or s p 0; local = get_or s (p + 1) 0; operand = u16_of s (p + 1); count = number_of 8 s (p + 1 + 2) }} (λ k. is_here k refl (λ _. refl) (λ _. refl) (λ _. (refl, refl))) in
        record { known = a.known; opcode = a.opcode; local = _; operand = _; count = _; is = a.is }

-- ── what the look-ups ask, by table ──

pub ruleset block_laws = (blocks_fit, block_room)

pub ruleset instruction_laws = (code_fits, instruction_here)

pub ruleset opcode_laws = (code_fits, opcode_within)
