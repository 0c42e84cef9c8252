-- Which numbers the two passes answer with, for every decoded unit and every area.
use Rattle.std.specs.Prelude.{Bool, true, false, refl, ℕ, zero, suc}
use mathlib.Core.List.{List, [], ◌∷◌}
use Rattle.std.proofs.Math.Dec.{T}
use Rattle.status.specs.declared.StatusCode.{StatusCode}
use Rattle.status.specs.Verdict.{status_number, number_of, refusal}
use Rattle.definitions.specs.Result.{Result, ok, err}
use Rattle.definitions.specs.Bytecode.{Bytecode}
use Rattle.definitions.specs.CompiledUnit.{CompiledUnit, Block}
use Rattle.definitions.specs.StackUsage.{Effect, instructions_of, instruction_effect, require, height_after, height_over, at_block_end, verify_block}
use Rattle.definitions.specs.Verify.{after_block, usage_over, stack_usage, Walked, stands, stopped, walk, walk_verdict, type_safety}
use Rattle.theorems.specs.Numbers.{usage_refusal, type_number, usage_number, step_type, usage_number_law}
use Rattle.theorems.proofs.Numbers.{table_usage}
use Rattle.theorems.specs.Lookups.{RefusesAmong, only_ok, only_err, only_then}
use Rattle.theorems.specs.All.{none}
use Rattle.theorems.proofs.Steps.{step_sound}
use Rattle.theorems.specs.Walks.{Allowed}
use Rattle.theorems.proofs.Walks.{walk_ends}
use Rattle.theorems.specs.Statuses.{kept_anything}

-- ── types ──

pub type_statuses : (u : CompiledUnit) (area : ℕ) → T (type_number (number_of (type_safety u area)))
unfolding type_safety refusal
type_statuses u area = go (walk u area u.blocks []) (walk_ends u area (kept_anything u) u.blocks [] none).allowed
  where
    go : (r : Walked) → Allowed r → T (type_number (number_of (walk_verdict r)))
    go (stands s) h = tt
    go (stopped w offset s) h = step_type (status_number w) h

-- ── stack usage ──

abbrev InUsage : {A : Type 0} → Result A → Type 0
InUsage r = RefusesAmong usage_refusal r

only_require : {A : Type 0} (b : Bool) (w : StatusCode) {r : Result A} → T (usage_refusal (status_number w)) → InUsage r → InUsage (require b w r)
unfolding require
only_require true w t h = h
only_require false w t h = only_err t

only_height_after : (h : ℕ) (e : Effect) → InUsage (height_after h e)
unfolding height_after
only_height_after h e = only_require _ _ tt (only_require _ _ tt only_ok)

only_at_block_end : (h : ℕ) → InUsage (at_block_end h)
only_at_block_end zero = only_ok
only_at_block_end (suc h) = only_err tt

module _ (u : CompiledUnit) where
  only_effect : (i : Bytecode) → InUsage (instruction_effect u i)
  only_effect i = record { refuses = λ w e. table_usage (status_number w) ((step_sound u (kept_anything u) i).refuses.refuses w e) }

  only_height_over : (is : List Bytecode) (h : ℕ) → InUsage (height_over u h is)
  unfolding height_over
  only_height_over [] h = only_ok
  only_height_over (i ∷ is) h = only_then _ (only_effect i) λ e. only_then _ (only_height_after h e) λ h'. only_height_over is h'

  only_verify_block : (b : Block) → InUsage (verify_block u b)
  unfolding verify_block
  only_verify_block b = only_then _ (only_height_over (instructions_of u b) 0) only_at_block_end

  usage_over_law : (bs : List Block) → T (usage_number (number_of (usage_over u bs)))
  unfolding usage_over refusal
  usage_over_law [] = tt
  usage_over_law (b ∷ bs) = go (verify_block u b) (only_verify_block b) (usage_over_law bs)
    where
      go : (r : Result (Unit {0})) → InUsage r → T (usage_number (number_of (usage_over u bs))) → T (usage_number (number_of (after_block b.first r (usage_over u bs))))
      go (ok a) h rest = rest
      go (err w) h rest = usage_number_law (status_number w) (h.refuses w refl)

  pub usage_statuses : T (usage_number (number_of (stack_usage u)))
  unfolding stack_usage
  usage_statuses = usage_over_law u.blocks
