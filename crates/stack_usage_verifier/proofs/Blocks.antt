-- The two loops: over the instructions of a block, and over the blocks. Each has its invariant, where it starts, one turn, and its ends.
use mathlib.Core.Path.{◌≡◌, refl, ◌∙◌}
use Prim.Native.Nat.{ℕ, zero, suc, ◌+◌, ◌≤◌, ◌<◌}
use native.Mathlib.Numerals.{add-one}
use native.Mathlib.Omega.{arith}
use Rattle.std.specs.Prelude.{Ok, Err}
use lib.ListN.{drop}
use Rattle.status.specs.declared.StatusCode.{StatusCode}
use Rattle.status.specs.declared.StatusCode.TheVariants.{POSITIVE_STACK_SIZE_AT_BLOCK_END}
use Rattle.status.specs.declared.Position.TheVariants.{BlockStart}
use Rattle.status.specs.declared.Verdict.TheVariants.{Accepted}
use Rattle.status.specs.declared.Verdict.{Verdict}
use Rattle.status.specs.Verdict.{refusal}
use Rattle.definitions.specs.Result.{ok, err, ◌>>?◌, at}
use Rattle.definitions.specs.CompiledUnit.{CompiledUnit, Block}
use Rattle.definitions.specs.StackUsage.{instructions_of, height_after, height_over, at_block_end, verify_block}
use Rattle.definitions.specs.Verify.{usage_over, stack_usage}
use Rattle.unit_tables.specs.declared.UnitView.{UnitView}
use Rattle.unit_tables.specs.Compiled.{unit_read, compiled}
use Rattle.unit_tables.specs.Tables.{table_count, blocks_in}
use Rattle.instruction_effect.specs.Answers.{InstructionEffectAt}
use Rattle.code_views.specs.Along.{from_place, up_to, up_to_more, up_to_none, past_end}

-- ── the instructions of a block ──

-- what is left of the block, from the instruction i on and at the height h, decides it
pub record InBlock (u : CompiledUnit) (b : Block) (i h : ℕ) : Type 0 where
  pub left : (height_over u h (up_to b.last i u.code) >>? at_block_end) ≡ verify_block u b

pub block_start : {u : CompiledUnit} {b : Block} {i : ℕ} → i ≡ b.first → InBlock u b i 0
unfolding verify_block instructions_of
block_start e = rw e (record { left = refl })

module _ {u : CompiledUnit} {b : Block} {i h : ℕ} (inv : InBlock u b i h) where
  module _ (k : i ≤ b.last) where
    pub effect_refused : {w : StatusCode} → InstructionEffectAt u i (Err w) → err w ≡ verify_block u b
    unfolding height_over ◌>>?◌
    effect_refused e = rw (up_to_more b.last i u.code k e.stands, ← e.effect) at inv.left

    module _ {p q : ℕ} (e : InstructionEffectAt u i (Ok (p, q))) where
      pub height_refused : {w : StatusCode} → err w ≡ height_after h (record { pops = p; pushes = q }) → err w ≡ verify_block u b
      unfolding height_over ◌>>?◌
      height_refused f = rw (up_to_more b.last i u.code k e.stands, ← e.effect, ← f) at inv.left

      pub block_next : {h' : ℕ} → ok h' ≡ height_after h (record { pops = p; pushes = q }) → InBlock u b (i + 1) h'
      unfolding height_over ◌>>?◌
      block_next f = record { left = rw add-one (rw (up_to_more b.last i u.code k e.stands, ← e.effect, ← f) at inv.left) }

  module _ (k : b.last < i) where
    pub block_even : h ≡ 0 → ok tt ≡ verify_block u b
    unfolding height_over ◌>>?◌
    block_even e = rw (up_to_none b.last i u.code k, e) at inv.left

    pub block_high : 0 < h → err POSITIVE_STACK_SIZE_AT_BLOCK_END ≡ verify_block u b
    unfolding height_over ◌>>?◌
    block_high n = high h n ∙ (rw (up_to_none b.last i u.code k) at inv.left)
      where
        high : (n : ℕ) → 0 < n → err POSITIVE_STACK_SIZE_AT_BLOCK_END ≡ at_block_end n
        high zero e = absurd (omega arith)
        high (suc n) e = refl

-- ── the blocks ──

-- the blocks from the i-th on decide the unit
pub record InBlocks (u : CompiledUnit) (i : ℕ) : Type 0 where
  pub left : usage_over u (drop i u.blocks) ≡ stack_usage u

pub blocks_start : (u : CompiledUnit) → InBlocks u 0
unfolding stack_usage
blocks_start u = record { left = refl }

module _ {u : CompiledUnit} {i : ℕ} (inv : InBlocks u i) where
  module _ {b : Block} (stands : at u.blocks i ≡ ok b) where
    pub blocks_next : ok tt ≡ verify_block u b → InBlocks u (i + 1)
    unfolding usage_over
    blocks_next e = record { left = rw add-one (rw (from_place u.blocks i stands, ← e) at inv.left) }

    pub blocks_refused : {w : StatusCode} {v : Verdict} → v ≡ refusal w (BlockStart b.first) → err w ≡ verify_block u b → v ≡ stack_usage u
    unfolding usage_over
    blocks_refused is e = is ∙ (rw (from_place u.blocks i stands, ← e) at inv.left)

pub blocks_done : (unit : UnitView) {i : ℕ} → InBlocks (compiled unit) i → unit.view.blocks.count ≤ i → Accepted ≡ stack_usage (compiled unit)
unfolding usage_over
blocks_done unit {i} inv k =
    let n = table_count (blocks_in (unit_read unit)) in
    rw (past_end (compiled unit).blocks i (omega (arith, n))) at inv.left

-- `verify`
pub ruleset in_blocks = (blocks_start, blocks_next, blocks_done)
