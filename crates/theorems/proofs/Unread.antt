-- Units that differ only in loaded integers or branch targets get the same four verdicts: where `blank` makes the same of two units,
-- each call answers the same. Above the theorems, that an instruction reads the same after `blank`.
use Rattle.std.specs.Prelude.{◌≡◌, ◌≢◌, Bool, List, T, leb, ltb, get_or, set, replicate}
use Rattle.std.proofs.Math.Path.{refl, ap}
use Rattle.std.proofs.Common.{sym, subst, ◌∙◌, le_trans, arith, get_or-set_other}
use Rattle.std.proofs.Math.Bool.{true, false}
use Prim.Native.Nat.{ℕ, zero, suc, ◌+◌, ◌≤◌, ◌<◌}
use Rattle.std.proofs.Math.Nat.{le_refl}
use Rattle.std.proofs.Math.Dec.{ltb→lt}
use Rattle.std.proofs.Math.ListN.{length}
use Rattle.std.proofs.Math.Seq.{length-sets}
use Rattle.status.specs.declared.StatusCode.TheVariants.{TOO_LONG, SHORT, AREA}
use Rattle.status.specs.declared.Position.TheVariants.{Byte}
use Rattle.status.specs.declared.Verdict.{Verdict}
use Rattle.status.specs.declared.Verdict.TheVariants.{Refused}
use Rattle.definitions.specs.Bytecode.{Bytecode}
use Rattle.definitions.specs.CompiledUnit.{CompiledUnit}
use Rattle.definitions.specs.Reading.{Read, read, stop, Reader, next, ◌>>=◌, ◌>>◌, give, here, byte, skip, many, placed}
use Rattle.definitions.specs.Commands.{InstructionForm, plain, unkept, local, counted, Commands, instruction_form}
use Rattle.definitions.specs.Reader.{operands, instruction, Decoded, unit, read_unit}
use Rattle.definitions.specs.Verdicts.{longest_area, after_reading, reading, read_verdict, stack_usage_verdict, types_verdict, both_verdict}
use Rattle.theorems.specs.Blank.{Instructions, before_unit, unkept_bytes, zeros, blank_one, blank_from, blank_by, blank}
use Rattle.theorems.specs.Reads.{Answer, reads, stops, end_of, Agree, agree_within, next_same, Any, skip_same, byte_same}
use Rattle.theorems.proofs.ReadRecords.{reads_operands, reads_instruction, reads_instructions}
use Rattle.theorems.specs.ReadUnit.{SameCode}
use Rattle.theorems.proofs.ReadUnit.{up_to_unit}

-- ── instructions ──

-- zeros change no other byte
zeros_other : (n at i : ℕ) (s : List ℕ) → ((k : ℕ) → k < n → i ≢ at + k) → get_or (zeros at n s) i 0 ≡ get_or s i 0
unfolding zeros
zeros_other zero at i s h = refl
zeros_other (suc n) at i s h =
    zeros_other n (suc at) i (set s at 0) (λ k l e. h (suc k) (omega arith) (omega arith)) ∙ get_or-set_other s at i 0 0 (λ e. h 0 (omega arith) (omega arith))

zeros_length : (n at : ℕ) (s : List ℕ) → length (zeros at n s) ≡ length s
unfolding zeros
zeros_length n at s = length-sets s at (replicate n 0)

-- a value that is read ends at lo or later
abbrev Past : ℕ → {A : Type 0} → Read A → Type 0
Past lo (read a e) = lo ≤ e
Past lo (stop w p) = Unit {0}

-- the operands of an instruction are kept, or passed over
data Operands : InstructionForm → Type 0 where
  kept : {form : InstructionForm} → unkept_bytes form ≡ 0 → Operands form
  passed : {n : ℕ} {i : Bytecode} → Operands (unkept n i)

operands_of : (form : InstructionForm) → Operands form
operands_of (plain i) = kept refl
operands_of (unkept n i) = passed
operands_of (local f) = kept refl
operands_of (InstructionForm.index f) = kept refl
operands_of (counted f) = kept refl
operands_of InstructionForm.unknown = kept refl

module _ (s : List ℕ) where
  past : {A : Type 0} {Q : A → Type 0} {at lo : ℕ} {x : Read A} → lo ≤ at → Answer s at Q x → Past lo x
  past h (reads q l m) = le_trans h l
  past h (stops w l) = tt

  operands_past :
      (p at : ℕ) → p ≤ length s → at ≤ length s → (form : InstructionForm) → Past (at + unkept_bytes form) (operands p form s at)
  unfolding operands ◌>>◌ next give skip
  operands_past p at l h form = go (operands_of form)
    where
      skipped : (n : ℕ) (i : Bytecode) (b : Bool) → Past (at + n) {A = Bytecode} (next {A = Unit {0}} (elim b [ true ↦ read tt (at + n) | false ↦ stop SHORT (length s) ]) (λ _ e. read i e))
      skipped n i true = le_refl (at + n)
      skipped n i false = tt

      go : {form : InstructionForm} → Operands form → Past (at + unkept_bytes form) (operands p form s at)
      go {form} (kept e) = past (omega arith) ((reads_operands p l form).answers at h)
      go (passed {n} {i}) = skipped n i (leb (at + n) (length s))

module _ (s s' : List ℕ) (lengths : length s' ≡ length s) where
  operands_same :
      (p at : ℕ) → p ≤ length s → at ≤ length s → (form : InstructionForm) →
      Agree s s' (at + unkept_bytes form) (end_of s (operands p form s at)) → operands p form s' at ≡ operands p form s at
  unfolding operands ◌>>◌ give
  operands_same p at l h form = go (operands_of form)
    where
      go : {form : InstructionForm} → Operands form → Agree s s' (at + unkept_bytes form) (end_of s (operands p form s at)) → operands p form s' at ≡ operands p form s at
      go {form} (kept e) g = (reads_operands p l form).local s' at h (agree_within at _ (omega arith) (le_refl _) g)
      go (passed {n} {i}) g = next_same (skip_same s s' at lengths n) (λ a e. refl)

-- the opcode's operands that are not kept end here
abbrev kept_from : Commands → List ℕ → ℕ → ℕ
kept_from commands s at = at + 1 + unkept_bytes (instruction_form commands (get_or s at 0))

module _ (commands : Commands) (s : List ℕ) (at : ℕ) where
  -- what an instruction is, once its opcode was looked for
  opcode : List ℕ → Bool → Read Bytecode
  opcode s' b =
      next (elim b as (λ _. Read ℕ) [ true ↦ read (get_or s at 0) (at + 1) | false ↦ stop SHORT (length s) ]) (λ c e. operands at (instruction_form commands c) s' e)

  instruction_past : at ≤ length s → Past (kept_from commands s at) (instruction commands s at)
  unfolding instruction ◌>>=◌ next here byte opcode
  instruction_past h = go (ltb at (length s)) (λ t. ltb→lt at (length s) t)
    where
      go : (b : Bool) → (T b → at < length s) → Past (kept_from commands s at) (opcode s b)
      go true l = operands_past s at (at + 1) h (omega (arith, l tt)) _
      go false l = tt

  instruction_same :
      (s' : List ℕ) → at ≤ length s → Agree s s' at at → Agree s s' (kept_from commands s at) (end_of s (instruction commands s at)) →
      instruction commands s' at ≡ instruction commands s at
  unfolding instruction ◌>>=◌ next here byte opcode
  instruction_same s' h g k =
      next_same (byte_same s s' at g.lengths (g.same at (le_refl at) (le_refl at))) (λ c e. refl) ∙ go (ltb at (length s)) (λ t. ltb→lt at (length s) t) k
    where
      go : (b : Bool) → (T b → at < length s) → Agree s s' (kept_from commands s at) (end_of s (opcode s b)) → opcode s' b ≡ opcode s b
      go true l k = operands_same s s' g.lengths at (at + 1) h (omega (arith, l tt)) _ k
      go false l k = refl

many_same :
    {A : Type 0} (r : Reader A) (s s' : List ℕ) (at : ℕ) {e : ℕ} {a : A} (n : ℕ) → r s' at ≡ read a e → r s at ≡ read a e →
    many n r s' e ≡ many n r s e → many (suc n) r s' at ≡ many (suc n) r s at
unfolding many ◌>>=◌ next give
many_same r s s' at n h k t = rw (h, k) (next_same t (λ l e. refl))

placed_read : {A : Type 0} (r : Reader A) (s : List ℕ) (at : ℕ) {e : ℕ} {a : A} → r s at ≡ read a e → placed r s at ≡ read (record { start = at; item = a }) e
unfolding placed ◌>>=◌ next here give
placed_read r s at h = rw h

module _ (commands : Commands) where
  module _ (s : List ℕ) (at : ℕ) (h : at ≤ length s) (rest : ℕ → List ℕ) (agrees : (e : ℕ) → e ≤ length s → Agree s (rest e) 0 e) where
    one_agrees : (x : Read Bytecode) → Answer s at Any x → Agree s (blank_one commands at s rest x) 0 at
    one_agrees x (reads {a} {e} q l m) = record {
      lengths = zeros_length _ (at + 1) (rest e) ∙ (agrees e m).lengths;
      same = λ j c d. zeros_other _ (at + 1) j (rest e) (λ k l' z. omega arith) ∙ (agrees e m).same j c (omega arith);
    }
    one_agrees x (stops w l) = record { lengths = refl; same = λ j c d. refl }

    one_reads :
        (n : ℕ) → ((e : ℕ) → e ≤ length s → many n (placed (instruction commands)) (rest e) e ≡ many n (placed (instruction commands)) s e) →
        (x : Read Bytecode) → instruction commands s at ≡ x → Answer s at Any x →
        many (suc n) (placed (instruction commands)) (blank_one commands at s rest x) at ≡ many (suc n) (placed (instruction commands)) s at
    one_reads n same x eq (stops w l) = refl
    one_reads n same x eq (reads {a} {e} q l m) = many_same _ s s' at n (placed_read _ s' at (first ∙ eq)) (placed_read _ s at eq) (others ∙ same e m)
      where
        s' : List ℕ
        s' = blank_one commands at s rest (read a e)

        past_operands : kept_from commands s at ≤ e
        past_operands = subst (Past (kept_from commands s at)) eq (instruction_past commands s at h)

        agree : Agree s s' 0 at
        agree = one_agrees (read a e) (reads q l m)

        -- after the operands
        agree_after : (j : ℕ) → kept_from commands s at ≤ j → get_or s' j 0 ≡ get_or (rest e) j 0
        agree_after j c = zeros_other _ (at + 1) j (rest e) (λ k l' z. omega arith)

        first : instruction commands s' at ≡ instruction commands s at
        first = instruction_same commands s at s' h (agree_within at at (omega arith) (le_refl at) agree) (record {
          lengths = agree.lengths;
          same = λ j c d. agree_after j c ∙ (agrees e m).same j (omega arith) (subst (λ (y : Read Bytecode). j ≤ end_of s y) eq d);
        })

        others : many n (placed (instruction commands)) s' e ≡ many n (placed (instruction commands)) (rest e) e
        others = (reads_instructions {s = rest e} commands n).local s' e (omega (arith, (agrees e m).lengths)) (record {
          lengths = zeros_length _ (at + 1) (rest e);
          same = λ j c d. agree_after j (omega (arith, past_operands));
        })

  -- nothing changes up to the first opcode
  blank_from_agrees : (n at : ℕ) (s : List ℕ) → at ≤ length s → Agree s (blank_from commands n at s) 0 at
  unfolding blank_from
  blank_from_agrees zero at s h = record { lengths = refl; same = λ j c d. refl }
  blank_from_agrees (suc n) at s h = one_agrees s at h _ (λ e m. blank_from_agrees n e s m) _ ((reads_instruction commands).answers at h)

  blank_from_reads :
      (n at : ℕ) (s : List ℕ) → at ≤ length s →
      many n (placed (instruction commands)) (blank_from commands n at s) at ≡ many n (placed (instruction commands)) s at
  unfolding blank_from
  blank_from_reads zero at s h = refl
  blank_from_reads (suc n) at s h =
      one_reads s at h _ (λ e m. blank_from_agrees n e s m) n (λ e m. blank_from_reads n e s m) _ refl ((reads_instruction commands).answers at h)

-- ── the theorems ──

module _ (s : List ℕ) where
  blank_by_agrees : {x : Read Instructions} → Answer s 0 Any x → Agree s (blank_by s x) 0 (end_of s x)
  blank_by_agrees (reads {a} {e} q l m) = blank_from_agrees a.commands a.count e s m
  blank_by_agrees (stops w l) = record { lengths = refl; same = λ j c d. refl }

  blank_by_reads : {x : Read Instructions} → Answer s 0 Any x → SameCode s (blank_by s x) x
  blank_by_reads (reads {a} {e} q l m) = blank_from_reads a.commands a.count e s m
  blank_by_reads (stops w l) = tt

  before_answers : Answer s 0 Any (before_unit s 0)
  before_answers = (up_to_unit {s = s} {s' = s} refl).before.answers 0 (omega arith)

  -- `blank` changes no length
  pub blank_length : length (blank s) ≡ length s
  unfolding blank
  blank_length = (blank_by_agrees before_answers).lengths

  -- and nothing that the reader keeps, and no refusal
  pub blank_reads : read_unit (blank s) ≡ read_unit s
  unfolding read_unit blank
  blank_reads = ap (λ (n : ℕ). up_to_length n (unit (blank s) 0)) blank_length ∙ ap (up_to_length (length s)) same
    where
      up_to_length : ℕ → Read Decoded → Read Decoded
      up_to_length n x = elim (leb n 32768) [ true ↦ x | false ↦ stop TOO_LONG 0 ]

      same : unit (blank s) 0 ≡ unit s 0
      same = (up_to_unit blank_length).same 0 (omega arith) (blank_by_agrees before_answers) (blank_by_reads before_answers)

-- what a call answers of a unit goes by what is read of it
reading_same : (s s' : List ℕ) (area : ℕ) (judge : CompiledUnit → Verdict) → read_unit s ≡ read_unit s' → reading s area judge ≡ reading s' area judge
unfolding reading
reading_same s s' area judge h = ap (λ (x : Read Decoded). elim (leb area longest_area) as (λ _. Verdict) [ true ↦ after_reading x judge | false ↦ Refused AREA (Byte 0) ]) h

-- units that differ only in loaded integers or branch targets get the same four verdicts
pub same_verdicts :
    (s s' : List ℕ) → blank s ≡ blank s' → (area : ℕ) →
    (read_verdict s area ≡ read_verdict s' area) × (stack_usage_verdict s area ≡ stack_usage_verdict s' area) × (types_verdict s area ≡ types_verdict s' area) × (both_verdict s area ≡ both_verdict s' area)
unfolding read_verdict stack_usage_verdict types_verdict both_verdict
same_verdicts s s' h area = (by _, by _, by _, by _)
  where
    by : (judge : CompiledUnit → Verdict) → reading s area judge ≡ reading s' area judge
    by judge = reading_same s s' area judge (sym (blank_reads s) ∙ ap read_unit h ∙ blank_reads s')
