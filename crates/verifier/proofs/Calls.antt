-- The ways that a call goes: the area is too long; or the unit is refused by the reader, or was read and is judged.
use mathlib.Core.Path.{◌≡◌, refl, sym, ◌∙◌}
use mathlib.Core.List.{List}
use Prim.Native.Nat.{ℕ, ◌≤◌, ◌<◌}
use borrow.Author.Tests.{le-leb, lt-leb}
use lib.ListN.{length, replicate}
use Rattle.status.specs.declared.StatusCode.{StatusCode}
use Rattle.status.specs.declared.StatusCode.TheVariants.{AREA}
use Rattle.status.specs.declared.Position.{Position}
use Rattle.status.specs.declared.Position.TheVariants.{Byte}
use Rattle.status.specs.declared.Verdict.{Verdict}
use Rattle.status.specs.declared.Verdict.TheVariants.{Accepted, Refused}
use Rattle.definitions.specs.CompiledUnit.{CompiledUnit}
use Rattle.definitions.specs.Reader.{read_unit, compiled_unit}
use Rattle.definitions.specs.Verify.{stack_usage, type_safety, both_passes}
use Rattle.definitions.specs.Verdicts.{after_reading, reading, area_after}
use Rattle.theorems.proofs.ReadUnit.{read_unit_stops}
use Rattle.unit.specs.declared.View.{View}
use Rattle.record_reader.specs.declared.ReadError.{ReadError}
use Rattle.unit.specs.Views.{answer_of, UnitRead}
use Rattle.unit.specs.WasRead.{was_refused}
use Rattle.std.specs.Prelude.{Result, Err}

-- ── after the reader ──

-- a refusal of the reader, whose place a u16 holds
module _ (s : List ℕ) {r : Result View ReadError} (q : r ≡ answer_of (read_unit s)) {e : ReadError} (k : r ≡ Err e) where
  pub place_fits : e.at ≤ 32768
  place_fits = (read_unit_stops s e.status e.at (was_refused s s q k)).3

  pub refused_reading : (judge : CompiledUnit → Verdict) → Refused e.status (Byte e.at) ≡ after_reading (read_unit s) judge
  refused_reading judge = rw (was_refused s s q k)

-- a unit that was read is judged
pub judged_reading :
    {s index : List ℕ} {view : View} (u : UnitRead s index view) (judge : CompiledUnit → Verdict) {r : Verdict} →
    r ≡ judge (compiled_unit u.decoded) → r ≡ after_reading (read_unit s) judge
judged_reading u judge q = rw u.reads q

-- ── both passes ──

module _ (u : CompiledUnit) (n : ℕ) {r : Verdict} (k : r ≡ stack_usage u) where
  pub usage_refused : (r ≡ Accepted → ⊥) → r ≡ both_passes u n
  unfolding both_passes
  usage_refused refused = go r refl
    where
      go : (v : Verdict) → r ≡ v → r ≡ both_passes u n
      go Accepted e = absurd (refused e)
      go (Refused w p) e = e ∙ rw (sym k ∙ e)

  pub usage_accepted : r ≡ Accepted → {v : Verdict} → v ≡ type_safety u n → v ≡ both_passes u n
  unfolding both_passes
  usage_accepted e h = h ∙ rw (sym k ∙ e)

-- ── the area ──

-- an area that is too long is as it was
pub area_kept : (area : List ℕ) → 65535 < length area → area_after area ≡ area
unfolding area_after
area_kept area h = rw (lt-leb (length area) 65535 h, area_after)

-- any other is left with zeros
pub area_cleared : (area : List ℕ) → length area ≤ 65535 → area_after area ≡ replicate (length area) 0
unfolding area_after
area_cleared area h = rw (le-leb (length area) 65535 h, area_after)

-- ── the verdicts ──

module _ (s : List ℕ) (area : ℕ) (judge : CompiledUnit → Verdict) where
  -- AREA is first
  pub area_refused : 65535 < area → reading s area judge ≡ Refused AREA (Byte 0)
  unfolding reading
  area_refused h = rw (lt-leb area 65535 h, reading)

  pub area_accepted : area ≤ 65535 → reading s area judge ≡ after_reading (read_unit s) judge
  unfolding reading
  area_accepted h = rw (le-leb area 65535 h, reading)

pub ruleset called = (area_kept, area_cleared, area_refused, area_accepted)
