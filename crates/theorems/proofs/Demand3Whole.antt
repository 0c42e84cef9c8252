-- Demand 3. What both passes accept, the type machine walks in any order and with any repeats: no instruction is refused, and the stack is
-- empty after each block. And on what stack usage accepts it never finds nothing to pop, whatever the area. Both hold of every decoded
-- unit, with no hypothesis on it; Demand3Bytes.antt carries them to the public calls.
use Rattle.std.specs.Prelude.{◌≡◌}
use mathlib.Core.List.{List, []}
use Rattle.std.proofs.Math.Path.{refl}
use Prim.Native.Nat.{ℕ}
use native.Mathlib.Omega.{arith}
use Rattle.std.proofs.Math.Dec.{T}
use Rattle.status.specs.declared.Verdict.{Verdict}
use Rattle.status.specs.declared.Verdict.TheVariants.{Accepted, Refused}
use Rattle.status.specs.Verdict.{status_number, number_of}
use Rattle.definitions.specs.CompiledUnit.{CompiledUnit, Block}
use Rattle.definitions.specs.Verify.{stack_usage, type_safety, if_accepted, both_passes}
use Rattle.theorems.specs.Numbers.{usage_number, usage_not_empty}
use Rattle.theorems.proofs.Statuses.{usage_statuses}
use Rattle.theorems.specs.Demand3.{Listed, Clean}
use Rattle.theorems.proofs.Demand3.{demand3}
use Rattle.theorems.proofs.NeverEmptyStack.{never_empty_stack}

pub both_accepted : (v v' : Verdict) → if_accepted v v' ≡ Accepted → (v ≡ Accepted) × (v' ≡ Accepted)
both_accepted Accepted v' e = (refl, e)
both_accepted (Refused w p) v' e = let z : ◌≡◌ {A = ℕ} 0 1 = cc in absurd (omega arith)

module _ (u : CompiledUnit) (area : ℕ) where
  -- the same, where one call ran both passes
  pub demand3_both : both_passes u area ≡ Accepted → (bs : List Block) → Listed u bs → Clean u area bs []
  unfolding both_passes
  demand3_both v bs l = let (k, v') = both_accepted _ _ v in demand3 u area k v' bs l

  -- both passes in turn
  pub never_empty_stack_both : number_of (both_passes u area) ≡ 10 → ⊥
  unfolding both_passes
  never_empty_stack_both v = go (stack_usage u) (never_empty_stack u area) (usage_statuses u) v
    where
      go : (a : Verdict) → (a ≡ Accepted → number_of (type_safety u area) ≡ 10 → ⊥) → T (usage_number (number_of a)) → number_of (if_accepted a (type_safety u area)) ≡ 10 → ⊥
      go Accepted h t v = h refl v
      go (Refused w p) h t v = usage_not_empty (status_number w) t v

-- Demand 3 whole, of a unit that stack usage accepted: whatever the area, the type pass does not say EMPTY_STACK, and where it accepts, every
-- list of listed blocks, in any order and with any repeats, is walked with no refusal and with an empty stack after each block.
pub demand3_whole : (u : CompiledUnit) → stack_usage u ≡ Accepted →
    ((area : ℕ) → number_of (type_safety u area) ≡ 10 → ⊥) × ((area : ℕ) → type_safety u area ≡ Accepted → (bs : List Block) → Listed u bs → Clean u area bs [])
demand3_whole u k = (λ area. never_empty_stack u area k, λ area. demand3 u area k)
