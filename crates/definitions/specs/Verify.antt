-- The two passes over the listed blocks: `StackUsageVerifier::verify`, `verify` of type_safety.rs, and both in turn.
use Rattle.std.specs.Prelude.{List, [], ◌∷◌, ℕ, suc}
use Rattle.status.specs.declared.StatusCode.{StatusCode}
use Rattle.status.specs.declared.Position.TheVariants.{BlockStart, Instruction}
use Rattle.status.specs.declared.Verdict.{Verdict}
use Rattle.status.specs.declared.Verdict.TheVariants.{Accepted, Refused}
use Rattle.status.specs.Verdict.{refusal}
use Rattle.definitions.specs.Result.{Result, ok, err}
use Rattle.definitions.specs.Bytecode.{Bytecode}
use Rattle.definitions.specs.CompiledUnit.{CompiledUnit, Block}
use Rattle.definitions.specs.StackUsage.{instructions_of, verify_block}
use Rattle.definitions.specs.Machine.{Stack, Outcome, got, refused, run}
use Rattle.definitions.specs.TypeSafety.{verify_instr}

-- ── stack usage ──

-- a block's refusal carries the block's start
abbrev pub after_block : ℕ → Result (Unit {0}) → Verdict → Verdict
after_block start (ok a) rest = rest
after_block start (err status) rest = refusal status (BlockStart start)

-- blocks as listed, overlaps and repeats too; the first refusal ends it
unfoldable pub usage_over : CompiledUnit → List Block → Verdict
usage_over u [] = Accepted
usage_over u (b ∷ bs) = after_block b.first (verify_block u b) (usage_over u bs)

-- `StackUsageVerifier::verify`
unfoldable pub stack_usage : CompiledUnit → Verdict
stack_usage u = usage_over u u.blocks

-- ── type safety ──

-- how a walk ends: with a stack; or refused at an instruction, with the stack as it stood before that instruction
pub data Walked : Type 0 where
  stands : Stack → Walked
  stopped : StatusCode → ℕ → Stack → Walked

-- go on from the stack that a walk left; a refusal stays
abbrev pub onward : Walked → (Stack → Walked) → Walked
onward (stands s) f = f s
onward (stopped status offset s) f = stopped status offset s

-- a step from the stack s, at an offset of the code
abbrev pub stepped : ℕ → Stack → Outcome (Unit {0}) → Walked
stepped offset s (got a s') = stands s'
stepped offset s (refused status) = stopped status offset s

module _ (u : CompiledUnit) (area : ℕ) where
  -- a run of instructions, the first of which stands at the offset
  unfoldable pub walk_from : ℕ → List Bytecode → Stack → Walked
  walk_from offset [] s = stands s
  walk_from offset (i ∷ is) s = onward (stepped offset s (run area (verify_instr u i) s)) (walk_from (suc offset) is)

  -- a block from its first to its last instruction, following no jump, past Ret and Abort too
  unfoldable pub walk_block : Block → Stack → Walked
  walk_block b s = walk_from b.first (instructions_of u b) s

  -- a list of blocks: each is handed the stack that the last one left
  unfoldable pub walk : List Block → Stack → Walked
  walk [] s = stands s
  walk (b ∷ bs) s = onward (walk_block b s) (walk bs)

-- a walk's verdict: a refusal carries its instruction's offset
abbrev pub walk_verdict : Walked → Verdict
walk_verdict (stands s) = Accepted
walk_verdict (stopped status offset s) = refusal status (Instruction offset)

-- `verify` of type_safety.rs: the blocks as listed, from an empty stack, which is not cleared between them
unfoldable pub type_safety : CompiledUnit → ℕ → Verdict
type_safety u area = walk_verdict (walk u area u.blocks [])

-- ── both ──

-- the second verdict where the first accepts
abbrev pub if_accepted : Verdict → Verdict → Verdict
if_accepted Accepted v = v
if_accepted (Refused status position) v = Refused status position

-- stack usage first
unfoldable pub both_passes : CompiledUnit → ℕ → Verdict
both_passes u area = if_accepted (stack_usage u) (type_safety u area)
