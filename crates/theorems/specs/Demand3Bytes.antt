-- Demand 3 of the public calls, as a statement of every list of bytes: what the calls answer of it says how the decoded unit's blocks walk.
-- That it holds is in Demand3Bytes.antt of proofs/.
use Rattle.std.specs.Prelude.{List, [], ◌≡◌, ℕ}
use Rattle.status.specs.declared.Verdict.{Verdict}
use Rattle.status.specs.declared.Verdict.TheVariants.{Accepted}
use Rattle.status.specs.Verdict.{number_of}
use Rattle.definitions.specs.CompiledUnit.{CompiledUnit, Block}
use Rattle.definitions.specs.Reading.{read}
use Rattle.definitions.specs.Reader.{Decoded, read_unit, compiled_unit}
use Rattle.definitions.specs.Verdicts.{stack_usage_verdict, types_verdict, both_verdict}
use Rattle.theorems.specs.Demand3.{Listed, Clean}

module _ (s : List ℕ) where
  -- what no refusal of the reading has, a verdict has from its pass over the decoded unit
  pub record Judged (P : Verdict → Type 0) (judge : CompiledUnit → Verdict) : Type 0 where
    pub decoded : Decoded
    pub ends : ℕ
    pub reads : read_unit s ≡ read decoded ends
    pub holds : P (judge (compiled_unit decoded))

  -- both passes accepted the bytes with an area of that length: in two calls, of which stack usage's may have been lent any area, or in one
  pub data BothAccepted (area : ℕ) : Type 0 where
    in_two : (area₁ : ℕ) → stack_usage_verdict s area₁ ≡ Accepted → types_verdict s area ≡ Accepted → BothAccepted area
    in_one : both_verdict s area ≡ Accepted → BothAccepted area

  -- the bytes are a unit, and every list of its listed blocks is walked with no refusal and with an empty stack after each block
  pub record WalksClean (area : ℕ) : Type 0 where
    pub decoded : Decoded
    pub ends : ℕ
    pub reads : read_unit s ≡ read decoded ends
    pub walks : (bs : List Block) → Listed (compiled_unit decoded) bs → Clean (compiled_unit decoded) area bs []

  -- Demand 3 of the bytes s. What both passes accepted walks clean; what stack usage accepted in one call, the type pass of another never refuses
  -- with EMPTY_STACK, whatever area each was lent; nor does the call that runs both.
  pub record Demand3 : Type 0 where
    pub clean : (area : ℕ) → BothAccepted area → WalksClean area
    pub never : (area₁ area₂ : ℕ) → stack_usage_verdict s area₁ ≡ Accepted → number_of (types_verdict s area₂) ≡ 10 → ⊥
    pub nor_both : (area : ℕ) → number_of (both_verdict s area) ≡ 10 → ⊥
