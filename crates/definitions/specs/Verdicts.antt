-- The four public calls, as functions of the unit's bytes and the area's length; and what each leaves in the area. Document 01,
-- "Verdict": AREA first, then the unit is read, then the passes.
use Rattle.std.specs.Prelude.{true, false, List, ℕ, leb, length, replicate}
use Rattle.status.specs.declared.StatusCode.TheVariants.{AREA}
use Rattle.status.specs.declared.Position.TheVariants.{Byte}
use Rattle.status.specs.declared.Verdict.{Verdict}
use Rattle.status.specs.declared.Verdict.TheVariants.{Accepted, Refused}
use Rattle.definitions.specs.CompiledUnit.{CompiledUnit}
use Rattle.definitions.specs.Reading.{Read, read, stop}
use Rattle.definitions.specs.Reader.{Decoded, read_unit, compiled_unit}
use Rattle.definitions.specs.Verify.{stack_usage, type_safety, both_passes}

-- the longest area
abbrev pub longest_area : ℕ
longest_area = 65535

-- a refusal of the reader ends it; a unit that was read is judged
abbrev pub after_reading : Read Decoded → (CompiledUnit → Verdict) → Verdict
after_reading (read d e) judge = judge (compiled_unit d)
after_reading (stop status p) judge = Refused status (Byte p)

-- what every call does first
unfoldable pub reading : List ℕ → ℕ → (CompiledUnit → Verdict) → Verdict
reading s area judge = elim (leb area longest_area) [ true ↦ after_reading (read_unit s) judge | false ↦ Refused AREA (Byte 0) ]

-- "read a unit"
unfoldable pub read_verdict : List ℕ → ℕ → Verdict
read_verdict s area = reading s area (λ u. Accepted)

-- "stack usage"
unfoldable pub stack_usage_verdict : List ℕ → ℕ → Verdict
stack_usage_verdict s area = reading s area stack_usage

-- "types"
unfoldable pub types_verdict : List ℕ → ℕ → Verdict
types_verdict s area = reading s area (λ u. type_safety u area)

-- "both"
unfoldable pub both_verdict : List ℕ → ℕ → Verdict
both_verdict s area = reading s area (λ u. both_passes u area)

-- the area after any of the four: zeros, or untouched where it was refused for its length
unfoldable pub area_after : List ℕ → List ℕ
area_after area = elim (leb (length area) longest_area) [ true ↦ replicate (length area) 0 | false ↦ area ]
