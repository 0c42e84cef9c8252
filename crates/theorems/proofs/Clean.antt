-- What the type machine walks with no refusal, and with an empty stack after each listed block, stack usage accepts: a step that goes through has
-- an effect and moves what it says, and a stack within the area is never too high. With demand 3 that makes the two the same, so that the
-- call of both passes may run types first and ask stack usage only where the walk was not such a one.
use Rattle.std.specs.Prelude.{Bool, true, false, ◌≡◌, ℕ, suc, ◌≤◌, T, leb}
use mathlib.Core.List.{List, [], ◌∷◌}
use Rattle.std.proofs.Math.Path.{refl, ap}
use Rattle.std.proofs.Common.{arith, leb→le}
use Rattle.std.proofs.Math.ListN.{length}
use Rattle.status.specs.declared.StatusCode.{StatusCode}
use Rattle.status.specs.declared.StatusCode.TheVariants.{NO_ROOM}
use Rattle.status.specs.declared.Verdict.TheVariants.{Accepted}
use Rattle.definitions.specs.Result.{ok, ◌>>?◌}
use Rattle.definitions.specs.Bytecode.{Bytecode}
use Rattle.definitions.specs.CompiledUnit.{CompiledUnit, Block}
use Rattle.definitions.specs.StackUsage.{Effect, instructions_of, instruction_effect, height_after, height_over, verify_block}
use Rattle.definitions.specs.Machine.{Program, ret, refuse, take, put, Stack, Outcome, got, refused, weight, run}
use Rattle.definitions.specs.TypeSafety.{verify_instr}
use Rattle.definitions.specs.Verify.{usage_over, stack_usage, stands, stopped, onward, stepped, walk_from, walk_block, walk, type_safety, both_passes}
use Rattle.theorems.specs.All.{all_tabulate}
use Rattle.theorems.specs.Programs.{After}
use Rattle.theorems.specs.Effects.{Goes}
use Rattle.theorems.proofs.Steps.{step_sound}
use Rattle.theorems.specs.Statuses.{Anything, kept_anything}
use Rattle.theorems.specs.Demand3.{Clean, end, block}
use Rattle.theorems.proofs.HeightAfter.{height_is}

-- ── a stack within the area ──

abbrev Fits : ℕ → {A : Type 0} → Outcome A → Type 0
Fits area (got a s) = weight s ≤ area
Fits area (refused w) = Unit {0}

-- a program leaves it there
run_fits : {A : Type 0} (area : ℕ) (m : Program A) (s : Stack) → weight s ≤ area → Fits area (run area m s)
unfolding run weight
run_fits area (ret a) s l = l
run_fits area (refuse w) s l = tt
run_fits area (take k) [] l = tt
run_fits area (take k) (t ∷ s) l = run_fits area (k t) s (omega arith)
run_fits {A} area (put t m) s l = go (leb (weight (t ∷ s)) area) (λ x. run_fits area m (t ∷ s) (leb→le _ _ x))
  where
    go : (b : Bool) → (T b → Fits area (run area m (t ∷ s))) → Fits area {A = A} (elim b as (λ _. Outcome A) [ true ↦ run area m (t ∷ s) | false ↦ refused NO_ROOM ])
    go true f = f tt
    go false f = tt

-- an entry weighs something
height_fits : (s : Stack) → length s ≤ weight s
unfolding weight
height_fits [] = omega arith
height_fits (t ∷ s) = omega (arith, height_fits s)

-- ── heights ──

never_stands : {P : Type 0} {w : StatusCode} {offset : ℕ} {s s' : Stack} → stopped w offset s ≡ stands s' → P
never_stands e = let z : ◌≡◌ {A = ℕ} 0 1 = cc in absurd (omega arith)

stands_same : {s s' : Stack} → stands s ≡ stands s' → s ≡ s'
stands_same e = cc

module _ (u : CompiledUnit) (area : ℕ) (small : area ≤ 65535) where
  -- a run of instructions that ends with a stack
  run_heights : (is : List Bytecode) (offset : ℕ) (s s' : Stack) → weight s ≤ area → walk_from u area offset is s ≡ stands s' → height_over u (length s) is ≡ ok (length s')
  unfolding height_over walk_from ◌>>?◌
  run_heights [] offset s s' l w = ap ok (ap length (stands_same w))
  run_heights (i ∷ is) offset s s' l w =
      let within = step_sound u (kept_anything u) i in
      let here = all_tabulate s λ t m. tt in
      go within.effect (run area (verify_instr u i) s) (within.sound.runs area s here) (within.found area s here) (run_fits area (verify_instr u i) s l) w
      (λ s₁ l₁ w₁. run_heights is (suc offset) s₁ s' l₁ w₁)
    where
      go : (e : Effect) (o : Outcome (Unit {0})) → After Anything s e.pops e.pushes o → (Goes o → instruction_effect u i ≡ ok e) → Fits area o →
          onward (stepped offset s o) (walk_from u area (suc offset) is) ≡ stands s' →
          ((s₁ : Stack) → weight s₁ ≤ area → walk_from u area (suc offset) is s₁ ≡ stands s' → height_over u (length s₁) is ≡ ok (length s')) →
          (instruction_effect u i >>? λ e. height_after (length s) e >>? λ h. height_over u h is) ≡ ok (length s')
      go e (got a s₁) m f l₁ w₁ ih = rw (f tt, height_is (length s) (length s₁) e m.0 m.1 (omega (arith, l₁, small, height_fits s₁))) (ih s₁ l₁ w₁)
      go e (refused x) m f l₁ w₁ ih = never_stands w₁

  -- a block that is walked from an empty stack to an empty stack
  block_usage : (b : Block) → walk_block u area b [] ≡ stands [] → verify_block u b ≡ ok tt
  unfolding verify_block walk_block weight ◌>>?◌
  block_usage b w = rw (run_heights (instructions_of u b) b.first [] [] (omega arith) w)

  usage_over_law : (bs : List Block) → Clean u area bs [] → usage_over u bs ≡ Accepted
  unfolding usage_over
  usage_over_law [] end = refl
  usage_over_law (b ∷ bs) (block w e c) = rw (block_usage b (rw e at w)) (usage_over_law bs (rw e at c))

  -- what is walked cleanly as listed, stack usage accepts
  clean_usage : Clean u area u.blocks [] → stack_usage u ≡ Accepted
  unfolding stack_usage
  clean_usage c = usage_over_law u.blocks c

  clean_walk : (bs : List Block) → Clean u area bs [] → walk u area bs [] ≡ stands []
  unfolding walk
  clean_walk [] end = refl
  clean_walk (b ∷ bs) (block w e c) = rw (w, e) (clean_walk bs (rw e at c))

  -- and both passes do
  pub clean_both : Clean u area u.blocks [] → both_passes u area ≡ Accepted
  unfolding both_passes type_safety
  clean_both c = rw (clean_usage c, clean_walk u.blocks c)
