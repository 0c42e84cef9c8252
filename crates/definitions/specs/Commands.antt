-- The commands of a unit: what each byte opens, as a record, as a type and as an instruction. `commands_of` says which are known under a
-- head; it is the one place that does.
use Rattle.std.specs.Prelude.{Bool, false, ◌||◌, List, [], ◌∷◌, ℕ, eqb, get_or}
use Rattle.definitions.specs.SignatureToken.{SignatureToken, Bool', U8, U64, U128, Address, Signer, Vector, Struct, Reference, MutableReference, TypeParameter}
use Rattle.definitions.specs.CompiledUnit.{Head, Module, Script}
use Rattle.definitions.specs.Bytecode.{Bytecode, Pop, Ret, BrTrue, BrFalse, Branch, LdU8, LdU64, LdU128, CastU8, CastU64, CastU128, LdConst, LdTrue, LdFalse, CopyLoc, MoveLoc, StLoc, Call, CallGeneric, Pack, PackGeneric, Unpack, UnpackGeneric, ReadRef, WriteRef, FreezeRef, MutBorrowLoc, ImmBorrowLoc, MutBorrowField, MutBorrowFieldGeneric, ImmBorrowField, ImmBorrowFieldGeneric, MutBorrowGlobal, MutBorrowGlobalGeneric, ImmBorrowGlobal, ImmBorrowGlobalGeneric, Add, Sub, Mul, Mod, Div, BitOr, BitAnd, Xor, Or, And, Not, Eq, Neq, Lt, Gt, Le, Ge, Abort, Nop, Exists, ExistsGeneric, MoveFrom, MoveFromGeneric, MoveTo, MoveToGeneric, Shl, Shr, VecPack, VecLen, VecImmBorrow, VecMutBorrow, VecPushBack, VecPopBack, VecUnpack, VecSwap}

-- what follows a type's command
pub data TypeCommand : Type 0 where
  leaf : SignatureToken → TypeCommand
  -- a type
  over : (SignatureToken → SignatureToken) → TypeCommand
  -- a u16
  index : (ℕ → SignatureToken) → TypeCommand
  -- u16 handle, u8 count, and that many types
  instantiation : TypeCommand
  unknown : TypeCommand

-- document 01, "Type": commands 01 to 0C, at their places
abbrev pub type_commands : List TypeCommand
type_commands =
    unknown ∷ leaf Bool' ∷ leaf U8 ∷ leaf U64 ∷ leaf U128 ∷ leaf Address ∷ leaf Signer ∷ over Vector ∷ index Struct ∷ instantiation
    ∷ over Reference ∷ over MutableReference ∷ index TypeParameter ∷ []

-- what follows an opcode
pub data InstructionForm : Type 0 where
  plain : Bytecode → InstructionForm
  -- so many bytes of a loaded integer or a code offset, not kept
  unkept : ℕ → Bytecode → InstructionForm
  -- u8 local
  local : (ℕ → Bytecode) → InstructionForm
  -- u16 table index
  index : (ℕ → Bytecode) → InstructionForm
  -- u16 table index, u64 count
  counted : (ℕ → ℕ → Bytecode) → InstructionForm
  unknown : InstructionForm

-- document 01, "An instruction is one byte": opcodes 0 to 70, at their places
abbrev pub instruction_forms : List InstructionForm
instruction_forms =
    plain Pop ∷ plain Ret ∷ unkept 2 BrTrue ∷ unkept 2 BrFalse ∷ unkept 2 Branch ∷ unkept 1 LdU8 ∷ unkept 8 LdU64
    ∷ unkept 16 LdU128 ∷ plain CastU8 ∷ plain CastU64 ∷ plain CastU128 ∷ index LdConst ∷ plain LdTrue ∷ plain LdFalse
    ∷ local CopyLoc ∷ local MoveLoc ∷ local StLoc ∷ index Call ∷ index CallGeneric ∷ index Pack ∷ index PackGeneric
    ∷ index Unpack ∷ index UnpackGeneric ∷ plain ReadRef ∷ plain WriteRef ∷ plain FreezeRef ∷ local MutBorrowLoc
    ∷ local ImmBorrowLoc ∷ index MutBorrowField ∷ index MutBorrowFieldGeneric ∷ index ImmBorrowField
    ∷ index ImmBorrowFieldGeneric ∷ index MutBorrowGlobal ∷ index MutBorrowGlobalGeneric ∷ index ImmBorrowGlobal
    ∷ index ImmBorrowGlobalGeneric ∷ plain Add ∷ plain Sub ∷ plain Mul ∷ plain Mod ∷ plain Div ∷ plain BitOr ∷ plain BitAnd
    ∷ plain Xor ∷ plain Or ∷ plain And ∷ plain Not ∷ plain Eq ∷ plain Neq ∷ plain Lt ∷ plain Gt ∷ plain Le ∷ plain Ge
    ∷ plain Abort ∷ plain Nop ∷ index Exists ∷ index ExistsGeneric ∷ index MoveFrom ∷ index MoveFromGeneric ∷ index MoveTo
    ∷ index MoveToGeneric ∷ plain Shl ∷ plain Shr ∷ counted VecPack ∷ index VecLen ∷ index VecImmBorrow ∷ index VecMutBorrow
    ∷ index VecPushBack ∷ index VecPopBack ∷ counted VecUnpack ∷ index VecSwap ∷ []

-- the commands of records, of types and of instructions
pub record Commands : Type 0 where
  -- the records' commands
  pub records : List ℕ
  pub types : List TypeCommand
  pub instructions : List InstructionForm

-- which commands are known under a head: scripts have no 14 to 17
abbrev pub commands_of : Head → Commands
commands_of Module = record {
  records = 0x10 ∷ 0x11 ∷ 0x12 ∷ 0x13 ∷ 0x14 ∷ 0x15 ∷ 0x16 ∷ 0x17 ∷ 0x18 ∷ 0x19 ∷ 0x1A ∷ 0x1B ∷ [];
  types = type_commands;
  instructions = instruction_forms;
}
commands_of Script = record {
  records = 0x10 ∷ 0x11 ∷ 0x12 ∷ 0x13 ∷ 0x18 ∷ 0x19 ∷ 0x1A ∷ 0x1B ∷ [];
  types = type_commands;
  instructions = instruction_forms;
}

-- whether c is one of the list
unfoldable pub one_of : List ℕ → ℕ → Bool
one_of [] c = false
one_of (k ∷ ks) c = eqb k c || one_of ks c

-- whether c opens a record
unfoldable pub known : Commands → ℕ → Bool
known commands c = one_of commands.records c

-- what a byte opens as a type
unfoldable pub type_command : Commands → ℕ → TypeCommand
type_command commands c = get_or commands.types c TypeCommand.unknown

-- what a byte opens as an instruction
unfoldable pub instruction_form : Commands → ℕ → InstructionForm
instruction_form commands c = get_or commands.instructions c InstructionForm.unknown
