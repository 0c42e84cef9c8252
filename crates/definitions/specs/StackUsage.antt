-- stack_usage_verifier.rs: what each instruction pops and pushes, and the height of the stack over a block.
use Rattle.std.specs.Prelude.{Bool, true, false, List, [], ◌∷◌, ℕ, zero, suc, ◌+◌, ◌-◌, ◌^◌, leb, length, take, drop}
use Rattle.status.specs.declared.StatusCode.{StatusCode}
use Rattle.status.specs.declared.StatusCode.TheVariants.{HEIGHT, NEGATIVE_STACK_SIZE_WITHIN_BLOCK, POSITIVE_STACK_SIZE_AT_BLOCK_END}
use Rattle.definitions.specs.Result.{Result, ok, err, ◌>>?◌}
use Rattle.definitions.specs.CompiledUnit.{CompiledUnit, FunctionHandle, StructFieldInformation, Native, Declared, Block, signature_at, function_handle_at, function_instantiation_at, struct_def_at, struct_instantiation_at}
use Rattle.definitions.specs.Bytecode.{Bytecode, Pop, Ret, BrTrue, BrFalse, Branch, LdU8, LdU64, LdU128, CastU8, CastU64, CastU128, LdConst, LdTrue, LdFalse, CopyLoc, MoveLoc, StLoc, Call, CallGeneric, Pack, PackGeneric, Unpack, UnpackGeneric, ReadRef, WriteRef, FreezeRef, MutBorrowLoc, ImmBorrowLoc, MutBorrowField, MutBorrowFieldGeneric, ImmBorrowField, ImmBorrowFieldGeneric, MutBorrowGlobal, MutBorrowGlobalGeneric, ImmBorrowGlobal, ImmBorrowGlobalGeneric, Add, Sub, Mul, Mod, Div, BitOr, BitAnd, Xor, Or, And, Not, Eq, Neq, Lt, Gt, Le, Ge, Abort, Nop, Exists, ExistsGeneric, MoveFrom, MoveFromGeneric, MoveTo, MoveToGeneric, Shl, Shr, VecPack, VecLen, VecImmBorrow, VecMutBorrow, VecPushBack, VecPopBack, VecUnpack, VecSwap}

-- the pair `(num_pops, num_pushes)`
pub record Effect : Type 0 where
  pub pops : ℕ
  pub pushes : ℕ

infix 20 ◌⇒◌
-- so many pops, and then so many pushes
abbrev pub ◌⇒◌ : ℕ → ℕ → Result Effect
◌⇒◌ p q = ok (record { pops = p; pushes = q })

-- a native struct counts no field
abbrev pub field_count : StructFieldInformation → ℕ
field_count Native = 0
field_count (Declared fields) = length fields

module _ (u : CompiledUnit) where
  -- a call pops its parameters and pushes its returns
  unfoldable pub call_effect : FunctionHandle → Result Effect
  call_effect handle =
      signature_at u handle.parameters >>? λ parameters. signature_at u handle.return >>? λ returns.
      length parameters ⇒ length returns

  -- the fields of a struct definition, by its index
  unfoldable pub field_count_at : ℕ → Result ℕ
  field_count_at idx = struct_def_at u idx >>? λ def. ok (field_count def.field_information)

  -- the fields of the definition that an instantiation names
  unfoldable pub field_count_of_instantiation : ℕ → Result ℕ
  field_count_of_instantiation idx = struct_instantiation_at u idx >>? λ inst. field_count_at inst.def

  -- `instruction_effect`
  unfoldable pub instruction_effect : Bytecode → Result Effect
  instruction_effect Pop = 1 ⇒ 0
  instruction_effect Ret = length u.function.return ⇒ 0
  instruction_effect BrTrue = 1 ⇒ 0
  instruction_effect BrFalse = 1 ⇒ 0
  instruction_effect Branch = 0 ⇒ 0
  instruction_effect LdU8 = 0 ⇒ 1
  instruction_effect LdU64 = 0 ⇒ 1
  instruction_effect LdU128 = 0 ⇒ 1
  instruction_effect CastU8 = 1 ⇒ 1
  instruction_effect CastU64 = 1 ⇒ 1
  instruction_effect CastU128 = 1 ⇒ 1
  instruction_effect (LdConst idx) = 0 ⇒ 1
  instruction_effect LdTrue = 0 ⇒ 1
  instruction_effect LdFalse = 0 ⇒ 1
  instruction_effect (CopyLoc idx) = 0 ⇒ 1
  instruction_effect (MoveLoc idx) = 0 ⇒ 1
  instruction_effect (StLoc idx) = 1 ⇒ 0
  instruction_effect (Call idx) = function_handle_at u idx >>? call_effect
  instruction_effect (CallGeneric idx) = function_instantiation_at u idx >>? λ inst. function_handle_at u inst.handle >>? call_effect
  instruction_effect (Pack idx) = field_count_at idx >>? λ n. n ⇒ 1
  instruction_effect (PackGeneric idx) = field_count_of_instantiation idx >>? λ n. n ⇒ 1
  instruction_effect (Unpack idx) = field_count_at idx >>? λ n. 1 ⇒ n
  instruction_effect (UnpackGeneric idx) = field_count_of_instantiation idx >>? λ n. 1 ⇒ n
  instruction_effect ReadRef = 1 ⇒ 1
  instruction_effect WriteRef = 2 ⇒ 0
  instruction_effect FreezeRef = 1 ⇒ 1
  instruction_effect (MutBorrowLoc idx) = 0 ⇒ 1
  instruction_effect (ImmBorrowLoc idx) = 0 ⇒ 1
  instruction_effect (MutBorrowField idx) = 1 ⇒ 1
  instruction_effect (MutBorrowFieldGeneric idx) = 1 ⇒ 1
  instruction_effect (ImmBorrowField idx) = 1 ⇒ 1
  instruction_effect (ImmBorrowFieldGeneric idx) = 1 ⇒ 1
  instruction_effect (MutBorrowGlobal idx) = 1 ⇒ 1
  instruction_effect (MutBorrowGlobalGeneric idx) = 1 ⇒ 1
  instruction_effect (ImmBorrowGlobal idx) = 1 ⇒ 1
  instruction_effect (ImmBorrowGlobalGeneric idx) = 1 ⇒ 1
  instruction_effect Add = 2 ⇒ 1
  instruction_effect Sub = 2 ⇒ 1
  instruction_effect Mul = 2 ⇒ 1
  instruction_effect Mod = 2 ⇒ 1
  instruction_effect Div = 2 ⇒ 1
  instruction_effect BitOr = 2 ⇒ 1
  instruction_effect BitAnd = 2 ⇒ 1
  instruction_effect Xor = 2 ⇒ 1
  instruction_effect Or = 2 ⇒ 1
  instruction_effect And = 2 ⇒ 1
  instruction_effect Not = 1 ⇒ 1
  instruction_effect Eq = 2 ⇒ 1
  instruction_effect Neq = 2 ⇒ 1
  instruction_effect Lt = 2 ⇒ 1
  instruction_effect Gt = 2 ⇒ 1
  instruction_effect Le = 2 ⇒ 1
  instruction_effect Ge = 2 ⇒ 1
  instruction_effect Abort = 1 ⇒ 0
  instruction_effect Nop = 0 ⇒ 0
  instruction_effect (Exists idx) = 1 ⇒ 1
  instruction_effect (ExistsGeneric idx) = 1 ⇒ 1
  instruction_effect (MoveFrom idx) = 1 ⇒ 1
  instruction_effect (MoveFromGeneric idx) = 1 ⇒ 1
  instruction_effect (MoveTo idx) = 2 ⇒ 0
  instruction_effect (MoveToGeneric idx) = 2 ⇒ 0
  instruction_effect Shl = 2 ⇒ 1
  instruction_effect Shr = 2 ⇒ 1
  instruction_effect (VecPack idx num) = num ⇒ 1
  instruction_effect (VecLen idx) = 1 ⇒ 1
  instruction_effect (VecImmBorrow idx) = 2 ⇒ 1
  instruction_effect (VecMutBorrow idx) = 2 ⇒ 1
  instruction_effect (VecPushBack idx) = 2 ⇒ 0
  instruction_effect (VecPopBack idx) = 1 ⇒ 1
  instruction_effect (VecUnpack idx num) = 1 ⇒ num
  instruction_effect (VecSwap idx) = 3 ⇒ 0

-- ── `verify_block` ──

-- the instructions of a block, first to last
unfoldable pub instructions_of : CompiledUnit → Block → List Bytecode
instructions_of u b = take (suc b.last - b.first) (drop b.first u.code)

-- a refusal where the test fails
unfoldable pub require : Bool → StatusCode → {A : Type 0} → Result A → Result A
require true status result = result
require false status result = err status

-- the height after an effect: pops past the height first, then a sum past 2^64 - 1, where the Rust's u64 overflows
unfoldable pub height_after : ℕ → Effect → Result ℕ
height_after h e =
    require (leb e.pops h) NEGATIVE_STACK_SIZE_WITHIN_BLOCK
    (let h' = (h - e.pops) + e.pushes in require (leb h' (2 ^ 64 - 1)) HEIGHT (ok h'))

-- the height after a run of instructions, from the height h
unfoldable pub height_over : CompiledUnit → ℕ → List Bytecode → Result ℕ
height_over u h [] = ok h
height_over u h (i ∷ is) = instruction_effect u i >>? λ e. height_after h e >>? λ h'. height_over u h' is

-- a block leaves the height at 0
abbrev pub at_block_end : ℕ → Result (Unit {0})
at_block_end zero = ok tt
at_block_end (suc h) = err POSITIVE_STACK_SIZE_AT_BLOCK_END

-- `verify_block`: each block starts at height 0
unfoldable pub verify_block : CompiledUnit → Block → Result (Unit {0})
verify_block u b = height_over u 0 (instructions_of u b) >>? at_block_end
