-- What is said of the reader of a unit: what is so of its answer to a whole unit; and that a reader of what stands before the instructions
-- and a reader of all of it go the same way. That both are so is in ReadUnit.antt of proofs/.
use Rattle.std.specs.Prelude.{◌≡◌, T, length}
use mathlib.Core.List.{List, [], ◌∷◌}
use Prim.Native.Nat.{ℕ, ◌≤◌}
use Rattle.status.specs.Verdict.{status_number}
use Rattle.definitions.specs.Reading.{Read, read, stop, Reader, many, placed}
use Rattle.definitions.specs.Reader.{instruction, Decoded, compiled_unit}
use Rattle.theorems.specs.Numbers.{Range, ◌to◌, among}
use Rattle.theorems.specs.Bounded.{Bounded}
use Rattle.theorems.specs.Blank.{Instructions}
use Rattle.theorems.specs.Reads.{end_of, Agree, Any, Reads}

-- ── up to the instructions ──

-- the instructions read the same
abbrev pub SameCode : List ℕ → List ℕ → Read Instructions → Type 0
SameCode s s' (read i e) =
    many i.count (placed (instruction i.commands)) s' e ≡ many i.count (placed (instruction i.commands)) s e
SameCode s s' (stop w p) = Unit {0}

-- b reads what f reads before the instructions; so where those read the same in s' as in s, all does
pub record UpTo (s s' : List ℕ) {A : Type 0} (R : A → Type 0) (b : Reader Instructions) (f : Reader A) : Type 0 where
  pub before : Reads s Any b
  pub whole : Reads s R f
  pub same : (at : ℕ) → at ≤ length s → Agree s s' at (end_of s (b s at)) → SameCode s s' (b s at) → f s' at ≡ f s at

-- ── the unit ──

abbrev pub BoundedUnit : Decoded → Type 0
BoundedUnit d = Bounded (compiled_unit d)

-- TOO_LONG to TRAILING
abbrev pub unit_refusals : List Range
unit_refusals = 1 to 8 ∷ []

-- what is so of an answer to a whole unit
abbrev pub Judged : List ℕ → Read Decoded → Type 0
Judged s (read d e) = (length s ≤ 32768) × Bounded (compiled_unit d)
Judged s (stop w p) = T (among unit_refusals (status_number w)) × (p ≤ length s) × (p ≤ 32768)
