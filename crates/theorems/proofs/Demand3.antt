-- What both passes accept, the type machine walks in any order and with any repeats: no instruction is refused, and the stack is empty
-- after each block.
use Rattle.std.specs.Prelude.{◌≡◌}
use mathlib.Core.List.{List, [], ◌∷◌, Memᴰ}
use Rattle.std.proofs.Math.Path.{refl}
use Prim.Native.Nat.{ℕ}
use Rattle.std.proofs.Math.ListN.{length}
use Rattle.status.specs.declared.Position.TheVariants.{Instruction}
use Rattle.status.specs.declared.Verdict.TheVariants.{Accepted}
use Rattle.definitions.specs.CompiledUnit.{CompiledUnit, Block}
use Rattle.definitions.specs.Verify.{usage_over, stack_usage, Walked, stands, stopped, onward, walk_block, walk, walk_verdict, type_safety}
use Rattle.theorems.specs.Demand3.{Listed, none, more, Clean, end, block}
use Rattle.theorems.proofs.WalkHeights.{empty_stack, never_accepted, block_accepted, Keeping, block_keeps}

-- the stack that a walk ends with has that height
abbrev HasHeight : ℕ → Walked → Type 0
HasHeight h (stands s) = length s ≡ h
HasHeight h (stopped w offset s) = Unit {0}

keeps_height : Keeping HasHeight
keeps_height = record { of_height = λ h s l. l; height = λ h s l. l; of_refusal = λ h w offset s n. tt }

module _ (u : CompiledUnit) (area : ℕ) where
  -- every listed block, walked from an empty stack, leaves an empty stack
  each_block : (bs : List Block) → usage_over u bs ≡ Accepted → walk_verdict (walk u area bs []) ≡ Accepted →
      (b : Block) → Memᴰ b bs → walk_block u area b [] ≡ stands []
  unfolding usage_over walk
  each_block [] k v b m = elim m [ ]
  each_block (c ∷ bs) k v b m =
      let (kc, kbs) = block_accepted _ _ _ k in
      go (walk_block u area c []) refl (block_keeps keeps_height u area c kc) v (λ v' m'. each_block bs kbs v' b m') m
    where
      go : (r : Walked) → walk_block u area c [] ≡ r → HasHeight 0 r → walk_verdict (onward r (walk u area bs)) ≡ Accepted →
          (walk_verdict (walk u area bs []) ≡ Accepted → Memᴰ b bs → walk_block u area b [] ≡ stands []) →
          Memᴰ b (c ∷ bs) → walk_block u area b [] ≡ stands []
      go (stands s) e l v ih (Memᴰ.head same) = rw (same, e, empty_stack s l)
      go (stands s) e l v ih (Memᴰ.tail m') = ih (rw (empty_stack s l) at v) m'
      go (stopped w offset s) e l v ih m = never_accepted w (Instruction offset) v

  clean : ((b : Block) → Memᴰ b u.blocks → walk_block u area b [] ≡ stands []) → (bs : List Block) → Listed u bs → Clean u area bs []
  clean h [] none = end
  clean h (b ∷ bs) (more m l) = block (h b m) refl (clean h bs l)

  -- ── the theorem ──

  -- what both passes accepted, walked in any order of listed blocks
  pub demand3 : stack_usage u ≡ Accepted → type_safety u area ≡ Accepted → (bs : List Block) → Listed u bs → Clean u area bs []
  unfolding stack_usage type_safety
  demand3 k v bs l = clean (each_block u.blocks k v) bs l
