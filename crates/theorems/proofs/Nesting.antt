-- No type on the stack nests over 64 levels, where none in the unit nests over 32: over every walk of every list of blocks.
use Rattle.std.specs.Prelude.{List, [], ◌≡◌, ℕ}
use Rattle.std.proofs.Math.Option.{none}
use Rattle.status.specs.declared.StatusCode.{StatusCode}
use Rattle.definitions.specs.CompiledUnit.{CompiledUnit, Block}
use Rattle.definitions.specs.Machine.{Stack}
use Rattle.definitions.specs.Verify.{stands, stopped, walk}
use Rattle.theorems.specs.All.{All, none}
use Rattle.theorems.specs.Bounded.{NestsWithin, Bounded}
use Rattle.definitions.specs.Reading.{read}
use Rattle.definitions.specs.Reader.{Decoded, read_unit, compiled_unit}
use Rattle.theorems.proofs.ReadUnit.{read_unit_bounded}
use Rattle.theorems.specs.Walks.{stack_of}
use Rattle.theorems.proofs.Walks.{walk_ends}
use Rattle.theorems.proofs.KeptNesting.{kept_nesting}

module _ (u : CompiledUnit) (b : Bounded u) where
  module _ (area : ℕ) (bs : List Block) where
    nests : (s : Stack) → All (NestsWithin 64) s → All (NestsWithin 64) (stack_of (walk u area bs s))
    nests s h = (walk_ends u area (kept_nesting u b) bs s h).keeps

    -- the stack that a walk ends with
    pub nests_walk : (s s' : Stack) → All (NestsWithin 64) s → walk u area bs s ≡ stands s' → All (NestsWithin 64) s'
    nests_walk s s' h e = rw e at (nests s h)

    -- the stack before the instruction that is refused
    pub nests_stopped : (w : StatusCode) (offset : ℕ) (s s' : Stack) → All (NestsWithin 64) s → walk u area bs s ≡ stopped w offset s' → All (NestsWithin 64) s'
    nests_stopped w offset s s' h e = rw e at (nests s h)

    -- from an empty stack, as the pass walks
    pub nests_from_empty : All (NestsWithin 64) (stack_of (walk u area bs []))
    nests_from_empty = nests [] none

-- NO TYPE ON THE STACK NESTS OVER 64 LEVELS: every unit that is read, every area, every list of blocks, at the end of the walk or where
-- it is refused
pub nests_bytes :
    (s : List ℕ) (d : Decoded) (e : ℕ) → read_unit s ≡ read d e → (area : ℕ) (bs : List Block) →
    All (NestsWithin 64) (stack_of (walk (compiled_unit d) area bs []))
nests_bytes s d e k area bs = nests_from_empty (compiled_unit d) (read_unit_bounded s d e k) area bs
