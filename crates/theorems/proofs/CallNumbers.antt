-- Every input gets a verdict whose number is 0 to 46, and each public call gives only the numbers that it can: 0 to 9 for what it
-- does first, and those of its passes. After both passes it is never EMPTY_STACK, 10.
use Rattle.std.specs.Prelude.{◌≡◌, Bool, true, false, List, [], ◌∷◌, ℕ, ◌≤◌, leb}
use Rattle.std.proofs.Math.Decide.{dec_le}
use Rattle.std.proofs.Common.{arith}
use Rattle.std.proofs.Math.Dec.{T}
use Rattle.status.specs.declared.StatusCode.TheVariants.{AREA}
use Rattle.status.specs.declared.Position.TheVariants.{Byte}
use Rattle.status.specs.declared.Verdict.{Verdict}
use Rattle.status.specs.declared.Verdict.TheVariants.{Accepted, Refused}
use Rattle.status.specs.Verdict.{number_of, status_number}
use Rattle.definitions.specs.CompiledUnit.{CompiledUnit}
use Rattle.definitions.specs.Reading.{Read, read, stop}
use Rattle.definitions.specs.Reader.{Decoded, read_unit, compiled_unit}
use Rattle.definitions.specs.Verify.{stack_usage, type_safety, if_accepted, both_passes}
use Rattle.definitions.specs.Verdicts.{longest_area, after_reading, reading, read_verdict, stack_usage_verdict, types_verdict, both_verdict}
use Rattle.theorems.specs.Numbers.{Range, ◌to◌, among, covers_among, step_refusals, usage_refusals, type_number, usage_number}
use Rattle.theorems.specs.Ranges.{range_bounds, in_range}
use Rattle.theorems.proofs.Statuses.{type_statuses, usage_statuses}
use Rattle.theorems.proofs.Demand3Whole.{never_empty_stack_both}
use Rattle.theorems.specs.ReadUnit.{unit_refusals, Judged}
use Rattle.theorems.proofs.ReadUnit.{read_unit_judged}
use Rattle.theorems.specs.CallNumbers.{read_numbers, stack_usage_numbers, types_numbers, both_numbers, all_numbers, Within}

-- ── every call reads first ──

module _ (s : List ℕ) (area : ℕ) where
  -- 0 to 9, or what the pass answers of a unit
  reading_within :
      (judge : CompiledUnit → Verdict) (rs : List Range) → ((n : ℕ) → T (among read_numbers n) → T (among rs n)) →
      ((u : CompiledUnit) → Within rs (judge u)) →
      Within rs (reading s area judge)
  unfolding reading
  reading_within judge rs low passes = go (leb area longest_area)
    where
      after : (x : Read Decoded) → Judged s x → Within rs (after_reading x judge)
      after (read d e) j = passes (compiled_unit d)
      after (stop w p) j = low (status_number w) (covers_among unit_refusals read_numbers tt (status_number w) j.0)

      go : (b : Bool) → Within rs (elim b [ true ↦ after_reading (read_unit s) judge | false ↦ Refused AREA (Byte 0) ])
      go true = after (read_unit s) (read_unit_judged s)
      go false = low 9 tt

  pub read_numbers_law : Within read_numbers (read_verdict s area)
  unfolding read_verdict
  read_numbers_law = reading_within _ read_numbers (λ n h. h) (λ u. tt)

  pub stack_usage_numbers_law : Within stack_usage_numbers (stack_usage_verdict s area)
  unfolding stack_usage_verdict
  stack_usage_numbers_law =
      reading_within _ stack_usage_numbers (covers_among read_numbers stack_usage_numbers tt) (λ u. covers_among (0 to 0 ∷ usage_refusals) stack_usage_numbers tt (number_of (stack_usage u)) (usage_statuses u))

  pub types_numbers_law : Within types_numbers (types_verdict s area)
  unfolding types_verdict
  types_numbers_law =
      reading_within _ types_numbers (covers_among read_numbers types_numbers tt) (λ u. covers_among (0 to 0 ∷ step_refusals) types_numbers tt (number_of (type_safety u area)) (type_statuses u area))

without_10 : (n : ℕ) → T (among all_numbers n) → (n ≡ 10 → ⊥) → T (among both_numbers n)
without_10 n t k = let (l, h) = range_bounds 0 46 n t in go h (dec_le n 9)
  where
    go : n ≤ 46 → Dec (n ≤ 9) → T (among both_numbers n)
    go h (yes l) = covers_among (0 to 9 ∷ []) both_numbers tt n (in_range 0 9 n (omega arith) l)
    go h (no l) = covers_among (11 to 46 ∷ []) both_numbers tt n (in_range 11 46 n (omega arith) h)

module _ (s : List ℕ) (area : ℕ) where
  pub both_numbers_law : Within both_numbers (both_verdict s area)
  unfolding both_verdict both_passes
  both_numbers_law =
      reading_within s area _ both_numbers (covers_among read_numbers both_numbers tt) (λ u.
      without_10 _ (go (stack_usage u) (type_safety u area) (usage_statuses u) (type_statuses u area)) (never_empty_stack_both u area))
    where
      go : (v v' : Verdict) → T (usage_number (number_of v)) → T (type_number (number_of v')) → Within all_numbers (if_accepted v v')
      go Accepted v' h k = covers_among (0 to 0 ∷ step_refusals) all_numbers tt (number_of v') k
      go (Refused w p) v' h k = covers_among (0 to 0 ∷ usage_refusals) all_numbers tt (status_number w) h

  -- whatever the call, 0 to 46
  pub all_numbers_law :
      Within all_numbers (read_verdict s area) × Within all_numbers (stack_usage_verdict s area) × Within all_numbers (types_verdict s area) × Within all_numbers (both_verdict s area)
  all_numbers_law = (
    covers_among read_numbers all_numbers tt (number_of (read_verdict s area)) (read_numbers_law s area),
    covers_among stack_usage_numbers all_numbers tt (number_of (stack_usage_verdict s area)) (stack_usage_numbers_law s area),
    covers_among types_numbers all_numbers tt (number_of (types_verdict s area)) (types_numbers_law s area),
    covers_among both_numbers all_numbers tt (number_of (both_verdict s area)) both_numbers_law,
  )
