-- What demand 3 says of a list of blocks: each is a listed one, and the walk over them refuses no instruction and leaves an empty stack
-- after each block. That both passes grant it is in Demand3.antt of proofs/.
use Rattle.std.specs.Prelude.{◌≡◌}
use mathlib.Core.List.{List, [], ◌∷◌, Memᴰ}
use Prim.Native.Nat.{ℕ}
use Rattle.definitions.specs.CompiledUnit.{CompiledUnit, Block}
use Rattle.definitions.specs.Machine.{Stack}
use Rattle.definitions.specs.Verify.{stands, walk_block}

-- a list of listed blocks, in any order, with any repeats
pub data Listed (u : CompiledUnit) : List Block → Type 0 where
  none : Listed u []
  more : {b : Block} {bs : List Block} → Memᴰ b u.blocks → Listed u bs → Listed u (b ∷ bs)

-- walking the list, each block handed the stack that the last one left: no instruction is refused, and the stack is empty after each block
pub data Clean (u : CompiledUnit) (area : ℕ) : List Block → Stack → Type 0 where
  end : {s : Stack} → Clean u area [] s
  block : {b : Block} {bs : List Block} {s s' : Stack} → walk_block u area b s ≡ stands s' → s' ≡ [] → Clean u area bs s' → Clean u area (b ∷ bs) s
