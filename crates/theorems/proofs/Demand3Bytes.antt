-- Demand 3 of the public calls: for every list of bytes, what the calls answer of it says how the decoded unit's blocks walk.
use Rattle.std.specs.Prelude.{Bool, true, false, List, ◌≡◌, refl, ℕ, leb}
use Rattle.std.proofs.Common.{arith}
use Rattle.status.specs.declared.StatusCode.{StatusCode}
use Rattle.status.specs.declared.StatusCode.TheVariants.{AREA}
use Rattle.status.specs.declared.Position.TheVariants.{Byte}
use Rattle.status.specs.declared.Verdict.{Verdict}
use Rattle.status.specs.declared.Verdict.TheVariants.{Accepted, Refused}
use Rattle.status.specs.Verdict.{number_of}
use Rattle.definitions.specs.CompiledUnit.{CompiledUnit}
use Rattle.definitions.specs.Reading.{Read, read, stop}
use Rattle.definitions.specs.Reader.{Decoded, read_unit, compiled_unit}
use Rattle.definitions.specs.Verdicts.{longest_area, after_reading, reading, stack_usage_verdict, types_verdict, both_verdict}
use Rattle.theorems.proofs.ReadUnit.{read_unit_stops}
use Rattle.theorems.proofs.Demand3.{demand3}
use Rattle.theorems.proofs.Demand3Whole.{demand3_both, never_empty_stack_both}
use Rattle.theorems.proofs.NeverEmptyStack.{never_empty_stack}
use Rattle.theorems.specs.Demand3Bytes.{Judged, BothAccepted, in_two, in_one, WalksClean, Demand3}

module _ (s : List ℕ) where
  judged : (area : ℕ) (P : Verdict → Type 0) (judge : CompiledUnit → Verdict) → (P (Refused AREA (Byte 0)) → ⊥) →
      ((w : StatusCode) (p : ℕ) → read_unit s ≡ stop w p → P (Refused w (Byte p)) → ⊥) → P (reading s area judge) → Judged s P judge
  unfolding reading
  judged area P judge no_area no_stop h = within (leb area longest_area) h
    where
      after : (r : Read Decoded) → read_unit s ≡ r → P (after_reading r judge) → Judged s P judge
      after (read d e) k x = record { decoded = d; ends = e; reads = k; holds = x }
      after (stop w p) k x = absurd (no_stop w p k x)

      within : (b : Bool) → P (elim b as (λ _. Verdict) [ true ↦ after_reading (read_unit s) judge | false ↦ Refused AREA (Byte 0) ]) → Judged s P judge
      within true x = after (read_unit s) refl x
      within false x = absurd (no_area x)

  -- ── accepted ──

  abbrev IsAccepted : Verdict → Type 0
  IsAccepted v = v ≡ Accepted

  not_accepted : (w : StatusCode) (p : ℕ) → IsAccepted (Refused w (Byte p)) → ⊥
  not_accepted w p e = let z : ◌≡◌ {A = ℕ} 0 1 = cc in omega arith

  accepted : (area : ℕ) (judge : CompiledUnit → Verdict) → reading s area judge ≡ Accepted → Judged s IsAccepted judge
  accepted area judge v = judged area IsAccepted judge (not_accepted AREA 0) (λ w p _ e. not_accepted w p e) v

  -- the pass accepts the unit that is read
  accepts : (judge : CompiledUnit → Verdict) → Judged s IsAccepted judge → (d : Decoded) (e : ℕ) → read_unit s ≡ read d e → judge (compiled_unit d) ≡ Accepted
  accepts judge j d e k = let same : j.decoded ≡ d = cc in rw same at j.holds

  walks_clean : (area : ℕ) → BothAccepted s area → WalksClean s area
  unfolding stack_usage_verdict types_verdict both_verdict
  walks_clean area (in_two area₁ v v') =
      let j = accepted area₁ _ v in
      record { decoded = j.decoded; ends = j.ends; reads = j.reads; walks = demand3 _ area j.holds (accepts _ (accepted area _ v') _ _ j.reads) }
  walks_clean area (in_one v) =
      let j = accepted area _ v in
      record { decoded = j.decoded; ends = j.ends; reads = j.reads; walks = demand3_both _ area j.holds }

  -- ── never EMPTY_STACK ──

  abbrev IsEmptyStack : Verdict → Type 0
  IsEmptyStack v = number_of v ≡ 10

  emptied : (area : ℕ) (judge : CompiledUnit → Verdict) → number_of (reading s area judge) ≡ 10 → Judged s IsEmptyStack judge
  emptied area judge v = judged area IsEmptyStack judge (λ e. omega arith) (λ w p k e. omega (arith, (read_unit_stops s w p k).1)) v

  never_empty : (area₁ area₂ : ℕ) → stack_usage_verdict s area₁ ≡ Accepted → number_of (types_verdict s area₂) ≡ 10 → ⊥
  unfolding stack_usage_verdict types_verdict
  never_empty area₁ area₂ v v' =
      let j = emptied area₂ _ v' in
      never_empty_stack (compiled_unit j.decoded) area₂ (accepts _ (accepted area₁ _ v) j.decoded j.ends j.reads) j.holds

  both_never_empty : (area : ℕ) → number_of (both_verdict s area) ≡ 10 → ⊥
  unfolding both_verdict
  both_never_empty area v = let j = emptied area _ v in never_empty_stack_both (compiled_unit j.decoded) area j.holds

  -- ── the theorem ──

  pub demand3_bytes : Demand3 s
  demand3_bytes = record { clean = walks_clean; never = never_empty; nor_both = both_never_empty }
