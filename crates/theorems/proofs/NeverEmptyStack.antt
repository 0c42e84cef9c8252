-- On what stack usage accepts the type machine never finds nothing to pop, whatever the area.
use Rattle.std.specs.Prelude.{◌≡◌}
use mathlib.Core.List.{[]}
use Prim.Native.Nat.{ℕ}
use native.Mathlib.Omega.{arith}
use Rattle.std.proofs.Math.ListN.{length}
use Rattle.status.specs.declared.Verdict.TheVariants.{Accepted}
use Rattle.status.specs.Verdict.{status_number, number_of, refusal}
use Rattle.definitions.specs.CompiledUnit.{CompiledUnit}
use Rattle.definitions.specs.Verify.{stack_usage, Walked, stands, stopped, walk, walk_verdict, type_safety}
use Rattle.theorems.proofs.WalkHeights.{Keeping, blocks_keep}

-- a walk that ends with a stack ends with one of that height, and it never finds nothing to pop
abbrev Keeps : ℕ → Walked → Type 0
Keeps h (stands s) = length s ≡ h
Keeps h (stopped w offset s) = status_number w ≡ 10 → ⊥

module _ (u : CompiledUnit) (area : ℕ) where
  -- of what stack usage accepted, the type pass never says EMPTY_STACK
  pub never_empty_stack : stack_usage u ≡ Accepted → number_of (type_safety u area) ≡ 10 → ⊥
  unfolding stack_usage type_safety refusal
  never_empty_stack k v = go (walk u area u.blocks []) (blocks_keep keeping u area u.blocks k) v
    where
      keeping : Keeping Keeps
      keeping = record { of_height = λ h s l. l; height = λ h s l. l; of_refusal = λ h w offset s n. n }

      go : (r : Walked) → Keeps 0 r → number_of (walk_verdict r) ≡ 10 → ⊥
      go (stands s) l v = omega arith
      go (stopped w offset s) l v = l v
