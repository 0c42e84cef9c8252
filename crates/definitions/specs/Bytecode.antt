-- `Bytecode` of file_format.rs: 71 instructions in the source's order, which is that of the opcodes 0 to 70 (Commands, instruction_forms).
-- Loaded integers and branch targets are not kept: no rule of the two passes looks at them.
use Rattle.std.specs.Prelude.{ℕ}

pub data Bytecode : Type 0 where
  Pop Ret BrTrue BrFalse Branch LdU8 LdU64 LdU128 CastU8 CastU64 CastU128 : Bytecode
  -- `ConstantPoolIndex`
  LdConst : ℕ → Bytecode
  LdTrue LdFalse : Bytecode
  -- `LocalIndex`
  CopyLoc MoveLoc StLoc : ℕ → Bytecode
  -- `FunctionHandleIndex`, `FunctionInstantiationIndex`
  Call CallGeneric : ℕ → Bytecode
  -- `StructDefinitionIndex`; `StructDefInstantiationIndex` where Generic
  Pack PackGeneric Unpack UnpackGeneric : ℕ → Bytecode
  ReadRef WriteRef FreezeRef : Bytecode
  -- `LocalIndex`
  MutBorrowLoc ImmBorrowLoc : ℕ → Bytecode
  -- `FieldHandleIndex`; `FieldInstantiationIndex` where Generic
  MutBorrowField MutBorrowFieldGeneric ImmBorrowField ImmBorrowFieldGeneric : ℕ → Bytecode
  -- `StructDefinitionIndex`; `StructDefInstantiationIndex` where Generic
  MutBorrowGlobal MutBorrowGlobalGeneric ImmBorrowGlobal ImmBorrowGlobalGeneric : ℕ → Bytecode
  Add Sub Mul Mod Div BitOr BitAnd Xor Or And Not Eq Neq Lt Gt Le Ge Abort Nop : Bytecode
  -- `StructDefinitionIndex`; `StructDefInstantiationIndex` where Generic
  Exists ExistsGeneric MoveFrom MoveFromGeneric MoveTo MoveToGeneric : ℕ → Bytecode
  Shl Shr : Bytecode
  -- `SignatureIndex`, and how many elements
  VecPack : ℕ → ℕ → Bytecode
  VecLen VecImmBorrow VecMutBorrow VecPushBack VecPopBack : ℕ → Bytecode
  VecUnpack : ℕ → ℕ → Bytecode
  VecSwap : ℕ → Bytecode
