-- A walk over any list of blocks, listed or not, accepted by stack usage or not: it keeps what is kept of every type on the stack, and is
-- refused only with a status that a step may have.
use mathlib.Core.List.{List, [], ◌∷◌}
use Rattle.std.specs.Prelude.{ℕ, suc}
use Rattle.definitions.specs.SignatureToken.{SignatureToken}
use Rattle.definitions.specs.Bytecode.{Bytecode}
use Rattle.definitions.specs.CompiledUnit.{CompiledUnit, Block}
use Rattle.definitions.specs.StackUsage.{Effect, instructions_of}
use Rattle.definitions.specs.Machine.{Stack, Outcome, got, refused, run}
use Rattle.definitions.specs.TypeSafety.{verify_instr}
use Rattle.definitions.specs.Verify.{Walked, stands, stopped, onward, stepped, walk_from, walk_block, walk}
use Rattle.theorems.specs.All.{All}
use Rattle.theorems.specs.Programs.{After}
use Rattle.theorems.specs.Kept.{Kept}
use Rattle.theorems.proofs.Steps.{step_sound}
use Rattle.theorems.specs.Walks.{Ends}

ends_onward : {I : SignatureToken → Type 0} (r : Walked) (f : Stack → Walked) → Ends I r → ((s : Stack) → All I s → Ends I (f s)) → Ends I (onward r f)
ends_onward (stands s) f h g = g s h.keeps
ends_onward (stopped w offset s) f h g = h

module _ (u : CompiledUnit) (area : ℕ) {I : SignatureToken → Type 0} (k : Kept u I) where
  ends_step : (i : Bytecode) (offset : ℕ) (s : Stack) → All I s → Ends I (stepped offset s (run area (verify_instr u i) s))
  ends_step i offset s h = let w = step_sound u k i in go w.effect (run area (verify_instr u i) s) (w.sound.runs area s h)
    where
      go : (e : Effect) (o : Outcome (Unit {0})) → After I s e.pops e.pushes o → Ends I (stepped offset s o)
      go e (got a s') x = record { keeps = x.2; allowed = tt }
      go e (refused w) x = record { keeps = h; allowed = x.1 }

  ends_from : (is : List Bytecode) (offset : ℕ) (s : Stack) → All I s → Ends I (walk_from u area offset is s)
  unfolding walk_from
  ends_from [] offset s h = record { keeps = h; allowed = tt }
  ends_from (i ∷ is) offset s h = ends_onward _ _ (ends_step i offset s h) λ s' h'. ends_from is (suc offset) s' h'

  pub walk_ends : (bs : List Block) (s : Stack) → All I s → Ends I (walk u area bs s)
  unfolding walk walk_block
  walk_ends [] s h = record { keeps = h; allowed = tt }
  walk_ends (b ∷ bs) s h = ends_onward _ _ (ends_from (instructions_of u b) b.first s h) λ s' h'. walk_ends bs s' h'
