-- The numbers that each public call can answer with: 0 to 9 for what it does first, and those of its passes; of both passes not
-- EMPTY_STACK, 10. That they do not answer with others is in
-- CallNumbers.antt of proofs/.
use Rattle.std.specs.Prelude.{List, [], ◌∷◌}
use Rattle.std.proofs.Math.Dec.{T}
use Rattle.status.specs.declared.Verdict.{Verdict}
use Rattle.status.specs.Verdict.{number_of}
use Rattle.theorems.specs.Numbers.{Range, ◌to◌, among, step_refusals, usage_refusals}

-- ── the numbers of each call ──

-- "read a unit", and what every call does first
abbrev pub read_numbers : List Range
read_numbers = 0 to 9 ∷ []

-- "stack usage": 0 to 9, 11, 13 to 16
abbrev pub stack_usage_numbers : List Range
stack_usage_numbers = 0 to 9 ∷ usage_refusals

-- "types": 0 to 12, 16 to 46
abbrev pub types_numbers : List Range
types_numbers = 0 to 9 ∷ step_refusals

-- "both"
abbrev pub both_numbers : List Range
both_numbers = 0 to 9 ∷ 11 to 46 ∷ []

abbrev pub all_numbers : List Range
all_numbers = 0 to 46 ∷ []

-- the verdict's number is one of these
abbrev pub Within : List Range → Verdict → Type 0
Within rs v = T (among rs (number_of v))
