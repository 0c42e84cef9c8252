-- The contract of a walk within an area that keeps its length, and the laws of the two loops: over the instructions of a block, and over the
-- blocks.
use Rattle.std.specs.Prelude.{◌≡◌, refl, Bool, true, false, ◌&&◌, List, [], ◌∷◌, ℕ, ◌+◌, ◌≤◌, ◌<◌, T, eqb, length, drop}
use Rattle.std.proofs.Common.{sym, ap, subst, ◌∙◌, arith, add-one, eqb→eq}
use Rattle.status.specs.declared.StatusCode.{StatusCode}
use Rattle.status.specs.declared.Position.TheVariants.{Instruction}
use Rattle.status.specs.declared.Verdict.{Verdict}
use Rattle.status.specs.declared.Verdict.TheVariants.{Accepted}
use Rattle.status.specs.Verdict.{refusal}
use Rattle.definitions.specs.Result.{ok, at}
use Rattle.definitions.specs.CompiledUnit.{CompiledUnit, Block}
use Rattle.definitions.specs.StackUsage.{instructions_of}
use Rattle.definitions.specs.Machine.{Stack, weight}
use Rattle.definitions.specs.Verify.{Walked, stands, stopped, walk_from, walk_block, walk, type_safety}
use Rattle.theorems.specs.Demand3.{Clean, end, block}
use Rattle.type_stack.specs.Held.{Holds, Stacked, held_none, empty_stacked}
use Rattle.type_stack.specs.Stepping.{and_stacked}
use Rattle.type_stack.specs.Leading.{Leads, leads_here, leads_on}
use Rattle.type_stack.specs.Walking.{Ends, WalksTo, types_verdict_law, walk_out, walked_stacked, instruction_next, instruction_refused, instructions_end, block_next, block_stopped, blocks_end}
use Rattle.std.specs.Prelude.{Ok, Err}
use Rattle.type_stack.specs.declared.Stopped.{Stopped}
use Rattle.type_stack.specs.Answers.{Walk, stopped_at}
use Rattle.code_views.specs.Along.{from_place, up_to, up_to_more, up_to_none, past_end}
use Rattle.instructions.specs.Does.{DoesAt}
use Rattle.type_safety.specs.declared.Types.{Types}

-- the offset that a walk names
abbrev pub offset_of : Walk → ℕ
offset_of (Ok v) = 0
offset_of (Err e) = e.offset

-- walks is the walk by the area's length
pub record Walks (walks : ℕ → Stack → Walked) (a : List ℕ) (w : ℕ) (b : List ℕ) (r : Walk) : Type 0 where
  pub same : length b ≡ length a
  pub near : offset_of r < 65536
  pub goes : WalksTo (walks (length a)) a w b r

-- ── the instructions of a block ──

-- the walk from the stack of weight w in a goes on at the instruction i, with the stack of weight v in b
pub record InBlock (u : CompiledUnit) (k : Block) (a : List ℕ) (w : ℕ) (b : List ℕ) (v i : ℕ) : Type 0 where
  pub same : length b ≡ length a
  pub stacked : Stacked b v
  pub leads : Leads (Holds a w) (walk_block u (length a) k) (Holds b v) (walk_from u (length a) i (up_to k.last i u.code))

pub in_block_start : (u : CompiledUnit) (k : Block) {a : List ℕ} {w : ℕ} → Stacked a w → InBlock u k a w a w k.first
unfolding walk_block instructions_of
in_block_start u k z = record { same = refl; stacked = z; leads = leads_here }

module _ {u : CompiledUnit} {k : Block} {a b : List ℕ} {w v i : ℕ} (inv : InBlock u k a w b v i) where
  module _ {d : List ℕ} (l : i ≤ k.last) (e : length d ≡ length b) where
    pub in_block_next : {x : ℕ} → DoesAt u i b v d (Ok x) → InBlock u k a w d x (i + 1)
    in_block_next z = record {
      same = e ∙ inv.same;
      stacked = and_stacked z.steps inv.stacked refl e;
      leads = rw (add-one i) (leads_on (rw (up_to_more k.last i u.code l z.stands) at inv.leads) (instruction_next u i z.instruction _ (sym inv.same) z.steps refl));
    }

    pub in_block_refused : {y : StatusCode} → DoesAt u i b v d (Err y) → i < 65536 → Walks (λ n. walk_block u n k) a w d (Err (stopped_at y i v))
    in_block_refused z n = record {
      same = e ∙ inv.same;
      near = n;
      goes = walk_out (rw (up_to_more k.last i u.code l z.stands) at inv.leads) (instruction_refused u i z.instruction _ (sym inv.same) z.steps refl);
    }

  pub in_block_end : k.last < i → Walks (λ n. walk_block u n k) a w b (Ok v)
  in_block_end l = record {
    same = inv.same;
    near = omega arith;
    goes = walk_out (rw (up_to_none k.last i u.code l) at inv.leads) (instructions_end u i (length a));
  }

-- ── the blocks ──

-- the verdict of types, and what it says that the walk was clean
pub record TypesOf (u : CompiledUnit) (n : ℕ) (r : Types) : Type 0 where
  pub verdict : r.verdict ≡ type_safety u n
  pub clean : r.clean ≡ true → Clean u n u.blocks []

pub record InBlocks (u : CompiledUnit) (a b : List ℕ) (v i : ℕ) : Type 0 where
  pub same : length b ≡ length a
  pub stacked : Stacked b v
  pub leads : Leads (Holds a 0) (walk u (length a) u.blocks) (Holds b v) (walk u (length a) (drop i u.blocks))

-- the walk was clean so far: what is left need be
pub record CleanSoFar (u : CompiledUnit) (n v i : ℕ) : Type 0 where
  pub none : v ≡ 0
  pub rest : Clean u n (drop i u.blocks) [] → Clean u n u.blocks []

pub in_blocks_start : (u : CompiledUnit) {a : List ℕ} → length a ≤ 65535 → InBlocks u a a 0 0
in_blocks_start u {a} l = record { same = refl; stacked = empty_stacked a l; leads = leads_here }

pub clean_start : (u : CompiledUnit) (n : ℕ) → CleanSoFar u n 0 0
clean_start u n = record { none = refl; rest = λ c. c }

-- a walk that ends with a stack of no weight ends with none
weightless : (s : Stack) → 0 ≡ weight s → s ≡ []
unfolding weight
weightless [] e = refl
weightless (t ∷ s) e = absurd (omega arith)

nothing_left : (b : List ℕ) (r : Walked) → Ends b (Ok 0) r → r ≡ stands []
unfolding Ends
nothing_left b (stands s) h = ap stands (weightless s h.weighs)
nothing_left b (stopped y p s) h = absurd h

both_true : (c e : Bool) → (c && e) ≡ true → (c ≡ true) × (e ≡ true)
both_true true e k = (refl, k)
both_true false e k = let z : ◌≡◌ {A = ℕ} 0 1 = cc in absurd (omega arith)

module _ {u : CompiledUnit} {a b : List ℕ} {v i : ℕ} (inv : InBlocks u a b v i) where
  module _ {k : Block} {d : List ℕ} (listed : at u.blocks i ≡ ok k) where
    abbrev block_goes : {q : Walk} → Walks (λ n. walk_block u n k) b v d q → WalksTo (walk_block u (length a) k) b v d q
    block_goes z = rw inv.same at z.goes

    pub in_blocks_next : {x : ℕ} → Walks (λ n. walk_block u n k) b v d (Ok x) → InBlocks u a d x (i + 1)
    in_blocks_next {x} z = record {
      same = z.same ∙ inv.same;
      stacked = walked_stacked z.goes inv.stacked z.same;
      leads = rw (add-one i) (leads_on (rw (from_place u.blocks i listed) at inv.leads) (block_next u (length a) k _ (block_goes z) refl));
    }

    -- a block that leaves nothing on the stack
    pub clean_next :
        {x : ℕ} {clean : Bool} → Walks (λ n. walk_block u n k) b v d (Ok x) → (clean ≡ true → CleanSoFar u (length a) v i) → (clean && eqb x 0) ≡ true →
        CleanSoFar u (length a) x (i + 1)
    clean_next {x} {clean} z so e =
        let (was, now) = both_true clean (eqb x 0) e in
        let here = so was in
        let zero : x ≡ 0 = eqb→eq x 0 (subst T (sym now) tt) in
        let walked : walk_block u (length a) k [] ≡ stands [] = nothing_left d _ (rw zero at ((block_goes z).ends [] (rw here.none (held_none b)))) in
        record { none = zero; rest = λ c. here.rest (rw (from_place u.blocks i listed) (block walked refl (rw (add-one i) at c))) }

    -- a refusal ends the walk with its verdict, and is not clean
    pub in_blocks_stopped :
        {e : Stopped} {r : Verdict} → Walks (λ n. walk_block u n k) b v d (Err e) → r ≡ refusal e.status (Instruction e.offset) →
        TypesOf u (length a) (record { verdict = r; clean = false })
    in_blocks_stopped z r = record {
      verdict = r ∙ types_verdict_law u (length a) (walk_out (rw (from_place u.blocks i listed) at inv.leads) (block_stopped u (length a) k _ (block_goes z) refl));
      clean = λ e. let z : ◌≡◌ {A = ℕ} 0 1 = cc in absurd (omega arith);
    }

  -- behind the last block
  pub in_blocks_end : {clean : Bool} → length u.blocks ≤ i → (clean ≡ true → CleanSoFar u (length a) v i) → TypesOf u (length a) (record { verdict = Accepted; clean = clean })
  in_blocks_end l so = record {
    verdict = types_verdict_law u (length a) (walk_out (rw (past_end u.blocks i l) at inv.leads) (blocks_end u (length a)));
    clean = λ e. (so e).rest (rw (past_end u.blocks i l) end);
  }
