-- That no type of a function nests over so many levels; and what holds of a table's items and of blocks that begin within the unit. The law
-- of each record is in ReadRecords.antt of proofs/.
use Rattle.std.specs.Prelude.{List}
use Prim.Native.Nat.{ℕ}
use Rattle.status.specs.declared.StatusCode.TheVariants.{BLOCK}
use Rattle.definitions.specs.CompiledUnit.{FunctionView, Block}
use Rattle.definitions.specs.Reading.{Placed}
use Rattle.definitions.specs.Reader.{blocks_within, items}
use Rattle.theorems.specs.All.{All, none, more, all_map}
use Rattle.theorems.specs.Bounded.{NestsWithin}
use Rattle.theorems.specs.Reads.{Any, Reads, reads_then, reads_give, reads_need, Stands}

-- the three signatures of the function
pub record ViewNestsWithin (n : ℕ) (view : FunctionView) : Type 0 where
  pub parameters : All (NestsWithin n) view.parameters
  pub return : All (NestsWithin n) view.return
  pub locals : All (NestsWithin n) view.locals

module _ {s : List ℕ} where
  pub reads_blocks_within : {Q : Block → Type 0} (n : ℕ) {bs : List (Placed Block)} → All (Stands s Q) bs → Reads s Any (blocks_within n bs)
  unfolding blocks_within
  reads_blocks_within n none = reads_give _ tt
  reads_blocks_within n (more h hs) = reads_then (reads_need _ BLOCK _ tt h.start) (reads_blocks_within n hs)

  pub all_items : {A : Type 0} {Q : A → Type 0} {l : List (Placed A)} → All (Stands s Q) l → All Q (items l)
  unfolding items
  all_items h = all_map (λ (p : Placed _). p.item) (λ p q. q.item) h
