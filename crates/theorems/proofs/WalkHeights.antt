-- A walk of what stack usage accepts goes by the heights that stack usage found: where it ends with a stack, that has the height, and a
-- refusal is not EMPTY_STACK. Said for whatever is to be kept of the two.
use Rattle.std.specs.Prelude.{Bool, true, false, ◌≡◌}
use mathlib.Core.List.{List, [], ◌∷◌}
use Rattle.std.proofs.Math.Path.{refl}
use Rattle.std.proofs.Common.{◌∙◌, leb→le}
use Prim.Native.Nat.{ℕ, zero, suc, ◌+◌, ◌-◌, ◌≤◌}
use native.Mathlib.Omega.{arith}
use Rattle.std.proofs.Math.Dec.{T}
use Rattle.std.proofs.Math.ListN.{length}
use Rattle.status.specs.declared.StatusCode.{StatusCode}
use Rattle.status.specs.declared.Position.{Position}
use Rattle.status.specs.declared.Position.TheVariants.{BlockStart}
use Rattle.status.specs.declared.Verdict.{Verdict}
use Rattle.status.specs.declared.Verdict.TheVariants.{Accepted}
use Rattle.status.specs.Verdict.{status_number, refusal}
use Rattle.definitions.specs.Result.{Result, ok, err}
use Rattle.definitions.specs.Bytecode.{Bytecode}
use Rattle.definitions.specs.CompiledUnit.{CompiledUnit, Block}
use Rattle.definitions.specs.StackUsage.{Effect, instructions_of, require, height_after, height_over, at_block_end, verify_block}
use Rattle.definitions.specs.Machine.{Stack, Outcome, got, refused, run}
use Rattle.definitions.specs.TypeSafety.{verify_instr}
use Rattle.definitions.specs.Verify.{after_block, usage_over, Walked, stands, stopped, onward, stepped, walk_from, walk_block, walk}
use Rattle.theorems.specs.Lookups.{ok_same, never_ok, used}
use Rattle.theorems.specs.All.{all_tabulate}
use Rattle.theorems.specs.Programs.{After}
use Rattle.theorems.proofs.Steps.{step_sound}
use Rattle.theorems.specs.Statuses.{Anything, kept_anything}

-- ── heights ──

require_ok : {A : Type 0} (b : Bool) (w : StatusCode) {r : Result A} {a : A} → require b w r ≡ ok a → T b × (r ≡ ok a)
unfolding require
require_ok true w e = (tt, e)
require_ok false w e = never_ok e

height_moves : (h h' : ℕ) (e : Effect) → height_after h e ≡ ok h' → (e.pops ≤ h) × (h' + e.pops ≡ h + e.pushes)
unfolding height_after
height_moves h h' e k =
    let (t, k₁) = require_ok _ _ k in
    let (_, k₂) = require_ok _ _ k₁ in
    let l : e.pops ≤ h = leb→le _ _ t in
    let r : h - e.pops + e.pushes ≡ h' = ok_same refl k₂ in
    (l, omega arith)

pub empty_stack : (s : Stack) → length s ≡ 0 → s ≡ []
empty_stack [] l = refl
empty_stack (t ∷ s) l = absurd (omega arith)

-- ── verdicts ──

-- a refusal is no acceptance
pub never_accepted : {P : Type 0} (w : StatusCode) (p : Position) → refusal w p ≡ Accepted → P
unfolding refusal
never_accepted w p e = let z : ◌≡◌ {A = ℕ} 0 1 = cc in absurd (omega arith)

pub block_accepted : (start : ℕ) (r : Result (Unit {0})) (rest : Verdict) → after_block start r rest ≡ Accepted → (r ≡ ok tt) × (rest ≡ Accepted)
block_accepted start (ok a) rest e = (refl, e)
block_accepted start (err w) rest e = never_accepted w (BlockStart start) e

-- ── walks of what stack usage accepts ──

-- K h is kept of a walk: of a stack its height h and no more, and of a refusal at most that it is not EMPTY_STACK
pub record Keeping (K : ℕ → Walked → Type 0) : Type 0 where
  pub of_height : (h : ℕ) (s : Stack) → length s ≡ h → K h (stands s)
  pub height : (h : ℕ) (s : Stack) → K h (stands s) → length s ≡ h
  pub of_refusal : (h : ℕ) (w : StatusCode) (offset : ℕ) (s : Stack) → (status_number w ≡ 10 → ⊥) → K h (stopped w offset s)

module _ {K : ℕ → Walked → Type 0} (keeping : Keeping K) (u : CompiledUnit) (area : ℕ) where
  run_keeps : (is : List Bytecode) (offset h h' : ℕ) (s : Stack) → length s ≡ h → height_over u h is ≡ ok h' → K h' (walk_from u area offset is s)
  unfolding height_over walk_from
  run_keeps [] offset h h' s l k = keeping.of_height h' s (l ∙ ok_same refl k)
  run_keeps (i ∷ is) offset h h' s l k =
      let (e, ee, k₁) = used _ _ k in
      let (h₁, eh, k₂) = used _ _ k₁ in
      let (le, sum) = height_moves h h₁ e eh in
      let within = step_sound u (kept_anything u) i in
      on e h₁ (run area (verify_instr u i) s) (rw (← within.agrees e ee) at (within.sound.runs area s (all_tabulate s λ t m. tt))) le sum
      (λ s' l'. run_keeps is (suc offset) h₁ h' s' l' k₂)
    where
      on : (e : Effect) (h₁ : ℕ) (o : Outcome (Unit {0})) → After Anything s e.pops e.pushes o → e.pops ≤ h → h₁ + e.pops ≡ h + e.pushes →
          ((s' : Stack) → length s' ≡ h₁ → K h' (walk_from u area (suc offset) is s')) → K h' (onward (stepped offset s o) (walk_from u area (suc offset) is))
      on e h₁ (got a s') m le sum ih = ih s' (omega arith)
      on e h₁ (refused w) m le sum ih = keeping.of_refusal h' w offset s λ x. omega (arith, m.0 x)

  pub block_keeps : (b : Block) → verify_block u b ≡ ok tt → K 0 (walk_block u area b [])
  unfolding verify_block walk_block
  block_keeps b k =
      let (h, eh, el) = used _ _ k in
      rw (zero_height h el) at (run_keeps (instructions_of u b) b.first 0 h [] refl eh)
    where
      zero_height : (h : ℕ) → at_block_end h ≡ ok tt → h ≡ 0
      zero_height zero e = refl
      zero_height (suc h) e = never_ok e

  pub blocks_keep : (bs : List Block) → usage_over u bs ≡ Accepted → K 0 (walk u area bs [])
  unfolding usage_over walk
  blocks_keep [] k = keeping.of_height 0 [] refl
  blocks_keep (b ∷ bs) k =
      let (kb, kbs) = block_accepted _ _ _ k in
      go (walk_block u area b []) (block_keeps b kb) (blocks_keep bs kbs)
    where
      go : (r : Walked) → K 0 r → K 0 (walk u area bs []) → K 0 (onward r (walk u area bs))
      go (stands s) l rest = rw (empty_stack s (keeping.height 0 s l)) rest
      go (stopped w offset s) l rest = l
