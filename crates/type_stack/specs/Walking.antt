-- The walks over a block's instructions and over the blocks, beside the stack in the area: what their contracts say, and the laws of their
-- loops. A walk that stops leaves in the area the stack as it stood before the refused instruction.
use Rattle.std.specs.Prelude.{◌≡◌, ℕ, suc, length}
use Rattle.std.proofs.Math.Path.{refl, ap}
use Rattle.std.proofs.Common.{◌∙◌, arith}
use mathlib.Core.List.{List, [], ◌∷◌}
use Rattle.status.specs.declared.StatusCode.{StatusCode}
use Rattle.status.specs.declared.Position.TheVariants.{Instruction}
use Rattle.status.specs.declared.Verdict.{Verdict}
use Rattle.status.specs.declared.Verdict.TheVariants.{Accepted}
use Rattle.status.specs.Verdict.{refusal}
use Rattle.definitions.specs.Bytecode.{Bytecode}
use Rattle.definitions.specs.CompiledUnit.{CompiledUnit, Block}
use Rattle.definitions.specs.Machine.{Stack, Outcome, got, refused, run}
use Rattle.definitions.specs.TypeSafety.{verify_instr}
use Rattle.definitions.specs.Verify.{Walked, stands, stopped, onward, stepped, walk_from, walk_block, walk, walk_verdict, type_safety}
use Rattle.type_stack.specs.Held.{Holds, Stacked, held_none}
use Rattle.type_stack.specs.Stepping.{StepsTo, Agrees}
use Rattle.type_stack.specs.Leading.{Leads, after, step_got}
use Rattle.type_stack.specs.declared.Stopped.{Stopped}
use Rattle.type_stack.specs.Answers.{Stepped, Walk, stopped_at}
use Rattle.std.specs.Prelude.{Ok, Err}

-- the answer r and the area b afterwards, beside how the walk ends
unfoldable pub Ends : List ℕ → Walk → Walked → Type 0
Ends b (Ok v) (stands s) = Holds b v s
Ends b (Ok v) (stopped y p s) = ⊥
Ends b (Err e) (stands s) = ⊥
Ends b (Err e) (stopped y p s) = (e.status ≡ y) × (e.offset ≡ p) × Holds b e.weight s

-- the contract of a walk: whatever stack the first w bytes of a held
pub record WalksTo (walks : Stack → Walked) (a : List ℕ) (w : ℕ) (b : List ℕ) (r : Walk) : Type 0 where
  pub ends : (s : Stack) → Holds a w s → Ends b r (walks s)

-- a walk's verdict
abbrev pub verdict_of : Walk → Verdict
verdict_of (Ok v) = Accepted
verdict_of (Err e) = refusal e.status (Instruction e.offset)

-- the weight of the stack that a walk leaves
abbrev pub weight_of : Walk → ℕ
weight_of (Ok v) = v
weight_of (Err e) = e.weight

-- ── the end of a loop ──

pub walk_out : {f g : Stack → Walked} {a b d : List ℕ} {w v : ℕ} {r : Walk} → Leads (Holds a w) f (Holds b v) g → WalksTo g b v d r → WalksTo f a w d r
walk_out x y = record { ends = λ s h. rw (x.goes s h) (y.ends (x.stack s h) (x.holds s h)) }

-- the area holds a stack again, also where the walk was stopped
pub walked_stacked : {f : Stack → Walked} {a b : List ℕ} {w : ℕ} {r : Walk} → WalksTo f a w b r → Stacked a w → length b ≡ length a → Stacked b (weight_of r)
unfolding Ends
walked_stacked {f} {a} {b} {w} {r} x k e = go r (f k.stack) (x.ends k.stack k.holds)
  where
    go : (q : Walk) (o : Walked) → Ends b q o → Stacked b (weight_of q)
    go (Ok v) (stands s) h = record { stack = s; holds = h; small = let z = k.small in omega arith }
    go (Ok v) (stopped y p s) h = absurd h
    go (Err d) (stands s) h = absurd h
    go (Err d) (stopped y p s) h = record { stack = s; holds = h.2; small = let z = k.small in omega arith }

-- ── the instructions of a block ──

module _ (u : CompiledUnit) (offset : ℕ) where
  module _ (i : Bytecode) (is : List Bytecode) {a b : List ℕ} {w : ℕ} {q : Stepped} {n : ℕ} (l : n ≡ length a) (x : StepsTo (verify_instr u i) a w b q) where
    within : (s : Stack) → run n (verify_instr u i) s ≡ run (length a) (verify_instr u i) s
    within s = ap (λ (m : ℕ). run m (verify_instr u i) s) l

    -- the walk goes on behind an instruction
    pub instruction_next : {v : ℕ} → q ≡ Ok v → Leads (Holds a w) (walk_from u n offset (i ∷ is)) (Holds b v) (walk_from u n (suc offset) is)
    unfolding walk_from
    instruction_next e = record {
      stack = λ s h. after (run (length a) (verify_instr u i) s) s;
      holds = λ s h. (step_got x e s h).1;
      goes = λ s h. ap (λ (o : Outcome (Unit {0})). onward (stepped offset s o) (walk_from u n (suc offset) is)) (within s ∙ (step_got x e s h).0);
    }

    -- it stops at one, and what the area held before that is still there
    pub instruction_refused : {y : StatusCode} → q ≡ Err y → WalksTo (walk_from u n offset (i ∷ is)) a w b (Err (stopped_at y offset w))
    unfolding walk_from Ends Agrees
    instruction_refused {y} e = record { ends = λ s h. go s h (run n (verify_instr u i) s) (rw (within s) (rw e at (x.agrees s h))) }
      where
        go : (s : Stack) → Holds a w s → (o : Outcome (Unit {0})) → Agrees a b (Err y) o → Ends b (Err (stopped_at y offset w)) (onward (stepped offset s o) (walk_from u n (suc offset) is))
        go s h (got t s') k = absurd k
        go s h (refused z) k = (k.0, refl, rw k.1 h)

  pub instructions_end : (n : ℕ) {a : List ℕ} {w : ℕ} → WalksTo (walk_from u n offset []) a w a (Ok w)
  unfolding walk_from Ends
  instructions_end n = record { ends = λ s h. h }

-- ── the blocks ──

module _ (u : CompiledUnit) (n : ℕ) where
  module _ (k : Block) (ks : List Block) {a b : List ℕ} {w : ℕ} {q : Walk} (x : WalksTo (walk_block u n k) a w b q) where
    -- the walk goes on behind a block, with the stack that it left
    pub block_next : {v : ℕ} → q ≡ Ok v → Leads (Holds a w) (walk u n (k ∷ ks)) (Holds b v) (walk u n ks)
    unfolding walk Ends
    block_next {v} e = record {
      stack = λ s h. left (walk_block u n k s) s;
      holds = λ s h. (go s (walk_block u n k s) (rw e at (x.ends s h))).1;
      goes = λ s h. ap (λ (o : Walked). onward o (walk u n ks)) (go s (walk_block u n k s) (rw e at (x.ends s h))).0;
    }
      where
        left : Walked → Stack → Stack
        left (stands s') s = s'
        left (stopped y p s') s = s

        go : (s : Stack) (o : Walked) → Ends b (Ok v) o → (o ≡ stands (left o s)) × Holds b v (left o s)
        go s (stands s') h = (refl, h)
        go s (stopped y p s') h = absurd h

    pub block_stopped : {e : Stopped} → q ≡ Err e → WalksTo (walk u n (k ∷ ks)) a w b (Err e)
    unfolding walk Ends
    block_stopped {e} i = record { ends = λ s h. go (walk_block u n k s) (rw i at (x.ends s h)) }
      where
        go : (r : Walked) → Ends b (Err e) r → Ends b (Err e) (onward r (walk u n ks))
        go (stands s) h = absurd h
        go (stopped z p s) h = h

  pub blocks_end : {a : List ℕ} {w : ℕ} → WalksTo (walk u n []) a w a (Ok w)
  unfolding walk Ends
  blocks_end = record { ends = λ s h. h }

  -- the pass's verdict
  pub types_verdict_law : {a b : List ℕ} {r : Walk} → WalksTo (walk u n u.blocks) a 0 b r → verdict_of r ≡ type_safety u n
  unfolding type_safety Ends
  types_verdict_law {a} {b} {r} x = go r (walk u n u.blocks []) (x.ends [] (held_none a))
    where
      go : (q : Walk) (o : Walked) → Ends b q o → verdict_of q ≡ walk_verdict o
      go (Ok v) (stands s) h = refl
      go (Ok v) (stopped y p s) h = absurd h
      go (Err e) (stands s) h = absurd h
      go (Err e) (stopped y p s) h = rw (h.0, h.1)
