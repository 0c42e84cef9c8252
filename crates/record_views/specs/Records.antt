-- What the answers of this crate say of a record or an instruction that was read.
use Rattle.std.specs.Prelude.{◌≡◌, List, ℕ, ◌<◌, length, get_or}
use Rattle.definitions.specs.SignatureToken.{Signature, arguments, encode_all}
use Rattle.definitions.specs.Bytecode.{Bytecode, Nop}
use Rattle.definitions.specs.CompiledUnit as defs
use Rattle.definitions.specs.Commands.{InstructionForm, plain, unkept, local, counted, commands_of, instruction_forms}
use Rattle.definitions.specs.Reading.{read}
use Rattle.definitions.specs.Reader as reader
use Rattle.definitions.specs.Places.{At, RecordAt}
use Rattle.signature_token.specs.declared.SignatureView.{SignatureView}
use Rattle.record_views.specs.declared.Fields.{Fields}
use Rattle.record_views.specs.declared.StructDef.{StructDef}
use Rattle.record_views.specs.declared.Instruction.{Instruction}

-- ── lists of types ──

-- the types ts are those of the list
pub record ListIs (ts : Signature) (r : SignatureView) : Type 0 where
  pub counted : r.types.count ≡ length ts
  pub stands : At r.types.bytes.now r.types.at (encode_all (arguments ts))

-- the types of the list, as the definitions have them
pub record TypesIn (r : SignatureView) : Type 0 where
  pub types : Signature
  pub are : ListIs types r

-- the types ts stand one after the other at the place r.0, and there are r.1 of them
pub record ListStands (s : List ℕ) (ts : Signature) (r : ℕ × ℕ) : Type 0 where
  pub counted : r.1 ≡ length ts
  pub small : r.1 < 256
  pub stands : At s r.0 (encode_all (arguments ts))

-- whatever list was read at `at`
abbrev pub ListAt : List ℕ → ℕ → ℕ × ℕ → Type 0
ListAt s at r = (head : defs.Head) (ts : Signature) (e : ℕ) → reader.types (commands_of head) s at ≡ read ts e → ListStands s ts r

-- some types were read at `at`, behind their count
pub record ListHere (s : List ℕ) (at : ℕ) : Type 0 where
  pub head : defs.Head
  pub types : Signature
  pub ends : ℕ
  pub reads : reader.types (commands_of head) s at ≡ read types ends

-- ── struct definitions ──

abbrev pub FieldsAre : defs.StructFieldInformation → Fields → Type 0
FieldsAre defs.Native Fields.Native = Unit {0}
FieldsAre defs.Native (Fields.Declared l) = ⊥
FieldsAre (defs.Declared ts) Fields.Native = ⊥
FieldsAre (defs.Declared ts) (Fields.Declared l) = ListIs ts l

pub record DefIs (d : defs.StructDefinition) (r : StructDef) : Type 0 where
  pub handle : r.handle.0 ≡ d.struct_handle
  pub fields : FieldsAre d.field_information r.fields

-- the fields' types stand in the bytes s
abbrev pub FieldsIn : List ℕ → Fields → Type 0
FieldsIn s Fields.Native = Unit {0}
FieldsIn s (Fields.Declared l) = l.types.bytes.now ≡ s

-- some definition's record has its command at `at`
pub record DefAt (s : List ℕ) (at : ℕ) : Type 0 where
  pub head : defs.Head
  pub def : defs.StructDefinition
  pub reads : RecordAt (reader.struct_definition (commands_of head)) s at def

-- ── instructions ──

-- the instruction of a form, with the local l, the index x and the number n where it takes them
abbrev pub applied : InstructionForm → ℕ → ℕ → ℕ → Bytecode
applied (plain i) l x n = i
applied (unkept k i) l x n = i
applied (local f) l x n = f l
applied (InstructionForm.index f) l x n = f x
applied (counted f) l x n = f x n
applied InstructionForm.unknown l x n = Nop

unfoldable pub instruction_of : ℕ → ℕ → ℕ → ℕ → Bytecode
instruction_of opcode l x n = applied (get_or instruction_forms opcode InstructionForm.unknown) l x n

-- some instruction's opcode stands at `at`
pub record InstructionHere (s : List ℕ) (at : ℕ) : Type 0 where
  pub head : defs.Head
  pub instruction : Bytecode
  pub ends : ℕ
  pub reads : reader.instruction (commands_of head) s at ≡ read instruction ends

-- r is that instruction, and its opcode is the byte there
pub record InstructionIs {s : List ℕ} {at : ℕ} (p : InstructionHere s at) (r : Instruction) : Type 0 where
  pub known : r.opcode < 71
  pub opcode : r.opcode ≡ get_or s at 0
  pub is : p.instruction ≡ instruction_of r.opcode r.local r.operand r.count
