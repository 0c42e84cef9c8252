-- What it is that an instruction's step is done, by its opcode and operands and by its place in the code; and the laws by which an arm of the
-- decision over the opcode knows its step.
use Rattle.std.specs.Prelude.{◌≡◌, refl, List, [], ◌∷◌, ℕ, zero, suc, ◌+◌, ◌-◌, ◌≤◌, ◌<◌, eqb}
use Rattle.std.proofs.Math.Decide.{ℕ_discrete}
use Rattle.std.proofs.Common.{arith}
use Rattle.definitions.specs.Result.{ok, at}
use Rattle.definitions.specs.SignatureToken.{U8, U64, U128, encode}
use Rattle.definitions.specs.Bytecode.{Bytecode}
use Rattle.definitions.specs.CompiledUnit.{CompiledUnit}
use Rattle.definitions.specs.TypeSafety.{verify_instr, borrow_loc}
use Rattle.record_views.specs.Records.{instruction_of}
use Rattle.record_views.specs.declared.Instruction.{Instruction}
use Rattle.instruction_arms.specs.declared.Arm.{Arm}
use Rattle.instruction_arms.specs.Arms.{opcodes, InArm}
use Rattle.code_views.specs.Answers.{InstructionAt}
use Rattle.signature_token.specs.TokenLaws.{is_u8, is_u64, is_u128}
use Rattle.type_stack.specs.Stepping.{StepsTo}
use Rattle.type_stack.specs.Pushing.{PushesTo}
use Rattle.operand_steps.specs.Leaves.{CastsTo}
use Rattle.type_stack.specs.Answers.{Stepped}

-- the step of the instruction with this opcode and the operands of i
abbrev pub StepOf : CompiledUnit → Instruction → List ℕ → ℕ → List ℕ → Stepped → ℕ → Type 0
StepOf u i a w b r opcode = StepsTo (verify_instr u (instruction_of opcode i.local i.operand i.count)) a w b r

pub record Does (u : CompiledUnit) (i : Instruction) (a : List ℕ) (w : ℕ) (b : List ℕ) (r : Stepped) : Type 0 where
  pub steps : StepOf u i a w b r i.opcode

-- the step of the i-th instruction of the code
pub record DoesAt (u : CompiledUnit) (i : ℕ) (a : List ℕ) (w : ℕ) (b : List ℕ) (r : Stepped) : Type 0 where
  pub instruction : Bytecode
  pub stands : at u.code i ≡ ok instruction
  pub steps : StepsTo (verify_instr u instruction) a w b r

-- the opcode is one of those from lo to hi
pub record Between (lo hi : ℕ) (i : Instruction) : Type 0 where
  pub from : lo ≤ i.opcode
  pub to : i.opcode ≤ hi

-- ── the arms of the decision ──

-- P holds of lo and of the n numbers behind it
unfoldable pub Each : (ℕ → Type 0) → ℕ → ℕ → Type 0
Each P lo zero = P lo
Each P lo (suc n) = P lo × Each P (suc lo) n

-- so it holds of a number among them
among : (P : ℕ → Type 0) (lo n : ℕ) → Each P lo n → (k : ℕ) → lo ≤ k → k ≤ lo + n → P k
unfolding Each
among P lo zero e k h l = let i : k ≡ lo = omega arith in rw i e
among P lo (suc n) e k h l = go (ℕ_discrete k lo) (λ i. among P (suc lo) n e.1 k (omega arith) (omega arith))
  where
    go : Dec (k ≡ lo) → ((k ≡ lo → ⊥) → P k) → P k
    go (yes i) f = rw i e.0
    go (no i) f = f i

-- and of an opcode from lo to hi
by_range : (P : ℕ → Type 0) {lo hi : ℕ} {it : Instruction} → Between lo hi it → Each P lo (hi - lo) → P it.opcode
by_range P {lo} {hi} {it} z e = among P lo (hi - lo) e it.opcode z.from (omega (arith, z.from, z.to))

-- the opcodes of the arm that was told
pub between : {arm x : Arm} {it : Instruction} → InArm arm it.opcode → arm ≡ x → Between (opcodes x).0 (opcodes x).1 it
between z e = let k = rw e at z in record { from = k.from; to = k.to }

module _ {u : CompiledUnit} {it : Instruction} {a b : List ℕ} {w : ℕ} {r : Stepped} where
  pub does_at : {i o : ℕ} → InstructionAt u i o it → Does u it a w b r → DoesAt u i a w b r
  does_at k d = record { instruction = _; stands = k.is; steps = d.steps }

  -- by the arm of one opcode alone
  pub key_does : (opcode : ℕ) → it.opcode ≡ opcode → StepOf u it a w b r opcode → Does u it a w b r
  key_does opcode e h = record { steps = rw e h }

  -- by the arm of the opcodes from lo to hi, which share the step
  pub range_does : {lo hi : ℕ} → Between lo hi it → Each (StepOf u it a w b r) lo (hi - lo) → Does u it a w b r
  range_does z e = record { steps = by_range (StepOf u it a w b r) z e }

  -- by the arm that was told, where each of its opcodes has the step
  pub arm_does : {arm : Arm} {i o : ℕ} → InArm arm it.opcode → InstructionAt u i o it → Each (StepOf u it a w b r) (opcodes arm).0 ((opcodes arm).1 - (opcodes arm).0) → DoesAt u i a w b r
  arm_does z k h = does_at k (range_does (between z refl) h)

  -- where they do not share it: what was done, Q, goes by the opcode
  apart :
      (Q : ℕ → Type 0) {lo hi : ℕ} → Between lo hi it → Each (λ o. Q o → StepOf u it a w b r o) lo (hi - lo) → Q it.opcode →
      Does u it a w b r
  apart Q z e h = record { steps = by_range (λ o. Q o → StepOf u it a w b r o) z e h }

  -- LdU8, LdU64, LdU128
  pub load_does : Between 5 7 it → PushesTo ((2 + (it.opcode - 5)) ∷ []) a w b r → Does u it a w b r
  unfolding instruction_of verify_instr Each encode
  load_does z =
      apart (λ o. PushesTo ((2 + (o - 5)) ∷ []) a w b r) z
      ((λ q. q.steps U8 refl), ((λ q. q.steps U64 refl), (λ q. q.steps U128 refl)))

  -- CastU8, CastU64, CastU128
  pub cast_does : Between 8 10 it → CastsTo (2 + (it.opcode - 8)) a w b r → Does u it a w b r
  unfolding instruction_of verify_instr Each
  cast_does z =
      apart (λ o. CastsTo (2 + (o - 8)) a w b r) z
      ((λ q. q.steps U8 is_u8), ((λ q. q.steps U64 is_u64), (λ q. q.steps U128 is_u128)))

  -- MutBorrowLoc, ImmBorrowLoc
  pub borrow_does : Between 26 27 it → StepsTo (borrow_loc u (eqb it.opcode 26) it.local) a w b r → Does u it a w b r
  unfolding instruction_of verify_instr Each
  borrow_does z = apart (λ o. StepsTo (borrow_loc u (eqb o 26) it.local) a w b r) z ((λ q. q), (λ q. q))

-- ── what the steps require ──

-- one of three opcodes in a row
pub third : (lo : ℕ) {it : Instruction} → Between lo (lo + 2) it → it.opcode - lo < 3
third lo b = omega (arith, b.from, b.to)
