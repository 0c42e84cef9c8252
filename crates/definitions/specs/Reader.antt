-- The reader of a unit: document 01's section "Unit", left to right, and the refusals 1 to 8 with their bytes.
-- Tables stand one after the other, since commands never fall. So a byte that goes on with no table is judged where `19` or `1B` is
-- due: COMMAND if it opens no record under this head, and otherwise ORDER (it falls, is a second `19`, or comes before `19`).
use Rattle.std.specs.Prelude.{true, false, ◌&&◌, List, [], ◌∷◌, map, ℕ, zero, suc, ltb, leb, eqb, length, get_or}
use Rattle.status.specs.declared.StatusCode.TheVariants.{TOO_LONG, COMMAND, ORDER, VALUE, DEPTH, BLOCK, TRAILING}
use Rattle.definitions.specs.AbilitySet.{AbilitySet}
use Rattle.definitions.specs.SignatureToken.{SignatureToken, Signature, arguments, StructInstantiation}
use Rattle.definitions.specs.Bytecode.{Bytecode}
use Rattle.definitions.specs.CompiledUnit.{Head, Module, Script, StructTypeParameter, StructHandle, FunctionHandle, FunctionInstantiation, StructFieldInformation, Native, Declared, StructDefinition, StructDefInstantiation, FieldHandle, FieldInstantiation, FunctionView, Block, CompiledUnit}
use Rattle.definitions.specs.Reading.{Read, read, stop, Reader, ◌>>=◌, ◌>>◌, give, fail, here, need, byte, u16, number, skip, opens, many, Placed, placed}
use Rattle.definitions.specs.Commands.{TypeCommand, leaf, over, instantiation, InstructionForm, plain, unkept, local, counted, Commands, commands_of, known, type_command, instruction_form}

-- ── types ──

-- the rest of a type after its command, which stood at p; `type` reads a type one level down
unfoldable pub rest_of_type : Reader SignatureToken → ℕ → TypeCommand → Reader SignatureToken
rest_of_type type p (leaf t) = give t
rest_of_type type p (over f) = do
  t ← type
  give (f t)
rest_of_type type p (TypeCommand.index f) = do
  i ← u16
  give (f i)
rest_of_type type p instantiation = do
  h ← u16
  n ← byte
  ts ← many n type
  give (StructInstantiation h (arguments ts))
rest_of_type type p TypeCommand.unknown = fail COMMAND p

-- a type of at most so many levels; the byte of the level below is DEPTH, whatever it is
unfoldable pub type_within : Commands → ℕ → Reader SignatureToken
type_within commands zero = do
  p ← here
  byte
  fail DEPTH p
type_within commands (suc levels) = do
  p ← here
  c ← byte
  rest_of_type (type_within commands levels) p (type_command commands c)

module _ (commands : Commands) where
  -- a type in a unit nests at most 32 levels
  unfoldable pub type : Reader SignatureToken
  type = type_within commands 32

  -- u8 count, types
  unfoldable pub types : Reader Signature
  types = do
    n ← byte
    many n type

-- ── records, after their command ──

-- a byte that is at most so much
unfoldable pub byte_up_to : ℕ → Reader ℕ
byte_up_to most = do
  p ← here
  b ← byte
  need (leb b most) VALUE p
  give b

-- an ability set: a byte of 0 to 15
unfoldable pub ability : Reader AbilitySet
ability = byte_up_to 15

-- a phantom byte, 0 or 1
unfoldable pub struct_type_parameter : Reader StructTypeParameter
struct_type_parameter = do
  b ← byte_up_to 1
  give (record { is_phantom = eqb b 1 })

-- `10`
unfoldable pub struct_handle : Reader StructHandle
struct_handle = do
  a ← ability
  n ← byte
  ps ← many n struct_type_parameter
  give (record { abilities = a; type_parameters = ps })

-- two u16, as in `12`, `13`, `15`, `16`, `17` and `1A`
unfoldable pub pair_of : {A : Type 0} → (ℕ → ℕ → A) → Reader A
pair_of f = do
  a ← u16
  b ← u16
  give (f a b)

-- `12`
unfoldable pub function_handle : Reader FunctionHandle
function_handle = pair_of (λ a b. record { parameters = a; return = b })

-- `13`
unfoldable pub function_instantiation : Reader FunctionInstantiation
function_instantiation = pair_of (λ a b. record { handle = a; type_parameters = b })

module _ (commands : Commands) where
  -- kind 0 native, 1 declared
  unfoldable pub field_information : ℕ → Reader StructFieldInformation
  field_information zero = give Native
  field_information (suc k) = do
    ts ← types commands
    give (Declared ts)

  -- `14`
  unfoldable pub struct_definition : Reader StructDefinition
  struct_definition = do
    h ← u16
    kind ← byte_up_to 1
    fields ← field_information kind
    give (record { struct_handle = h; field_information = fields })

-- `15`
unfoldable pub struct_def_instantiation : Reader StructDefInstantiation
struct_def_instantiation = pair_of (λ a b. record { def = a; type_parameters = b })

-- `16`
unfoldable pub field_handle : Reader FieldHandle
field_handle = pair_of (λ a b. record { owner = a; field = b })

-- `17`
unfoldable pub field_instantiation : Reader FieldInstantiation
field_instantiation = pair_of (λ a b. record { handle = a; type_parameters = b })

-- `1A`
unfoldable pub block : Reader Block
block = pair_of (λ a b. record { first = a; last = b })

-- a signature of the function: its index is judged as soon as it is whole, at its first byte
unfoldable pub signature_of : List Signature → Reader Signature
signature_of signatures = do
  p ← here
  i ← u16
  need (ltb i (length signatures)) VALUE p
  give (get_or signatures i [])

-- `19`
unfoldable pub function_view : List Signature → Reader FunctionView
function_view signatures = do
  ps ← signature_of signatures
  rs ← signature_of signatures
  ls ← signature_of signatures
  n ← byte
  as' ← many n ability
  give (record { parameters = ps; return = rs; locals = ls; type_parameters = as' })

-- ── code ──

-- the rest of an instruction after its opcode, which stood at p
unfoldable pub operands : ℕ → InstructionForm → Reader Bytecode
operands p (plain i) = give i
operands p (unkept n i) = do
  skip n
  give i
operands p (local f) = do
  x ← byte
  give (f x)
operands p (InstructionForm.index f) = do
  x ← u16
  give (f x)
operands p (counted f) = do
  x ← u16
  n ← number 8
  give (f x n)
operands p InstructionForm.unknown = fail COMMAND p

module _ (commands : Commands) where
  -- an opcode and its operands
  unfoldable pub instruction : Reader Bytecode
  instruction = do
    p ← here
    c ← byte
    operands p (instruction_form commands c)

  -- `1B`
  unfoldable pub code : Reader (List (Placed Bytecode))
  code = do
    n ← u16
    many n (placed instruction)

-- ── the unit ──

-- the records of one command, each with the place of its command. Each takes a byte or more, so as many turns as the unit has bytes do.
unfoldable pub table_within : {A : Type 0} → ℕ → ℕ → Reader A → Reader (List (Placed A))
table_within zero c body = give []
table_within (suc turns) c body = do
  more ← opens c
  elim more [
    | true ↦ (do
      p ← here
      byte
      a ← body
      rest ← table_within turns c body
      give (record { start = p; item = a } ∷ rest))
    | false ↦ give []
  ]

module _ (commands : Commands) where
  -- a table; under a head that does not know the command there is none
  unfoldable pub table : {A : Type 0} → ℕ → Reader A → Reader (List (Placed A))
  table c body s at = elim (known commands c) [ true ↦ table_within (length s) c body s at | false ↦ read [] at ]

  -- the command that is due
  unfoldable pub due : ℕ → Reader (Unit {0})
  due c = do
    p ← here
    b ← byte
    need (known commands b) COMMAND p
    need (eqb b c) ORDER p

-- nothing stands after the code
unfoldable pub end : Reader (Unit {0})
end s at = elim (eqb at (length s)) [ true ↦ read tt at | false ↦ stop TRAILING at ]

-- each block's last instruction is one of the code's, and its first is not after it; the first block that is not so is refused
unfoldable pub blocks_within : ℕ → List (Placed Block) → Reader (Unit {0})
blocks_within n [] = give tt
blocks_within n (b ∷ bs) = do
  need (leb b.item.first b.item.last && ltb b.item.last n) BLOCK b.start
  blocks_within n bs

-- what the reader keeps of a unit: the tables, with the place of each record and of each instruction
pub record Decoded : Type 0 where
  pub head : Head
  pub struct_handles : List (Placed StructHandle)
  pub signatures : List (Placed Signature)
  pub function_handles : List (Placed FunctionHandle)
  pub function_instantiations : List (Placed FunctionInstantiation)
  pub struct_defs : List (Placed StructDefinition)
  pub struct_instantiations : List (Placed StructDefInstantiation)
  pub field_handles : List (Placed FieldHandle)
  pub field_instantiations : List (Placed FieldInstantiation)
  pub constants : List (Placed SignatureToken)
  pub function : Placed FunctionView
  pub blocks : List (Placed Block)
  pub code : List (Placed Bytecode)

-- a table without the places of its records
unfoldable pub items : {A : Type 0} → List (Placed A) → List A
items l = map (λ (p : Placed _). p.item) l

-- a unit after its head
unfoldable pub unit_under : Head → Reader Decoded
unit_under head = do
  struct_handles ← table k 0x10 struct_handle
  signatures ← table k 0x11 (types k)
  function_handles ← table k 0x12 function_handle
  function_instantiations ← table k 0x13 function_instantiation
  struct_defs ← table k 0x14 (struct_definition k)
  struct_instantiations ← table k 0x15 struct_def_instantiation
  field_handles ← table k 0x16 field_handle
  field_instantiations ← table k 0x17 field_instantiation
  constants ← table k 0x18 (type k)
  p ← here
  due k 0x19
  view ← function_view (items signatures)
  blocks ← table k 0x1A block
  due k 0x1B
  instructions ← code k
  end
  blocks_within (length instructions) blocks
  give (record {
    head = head;
    struct_handles = struct_handles;
    signatures = signatures;
    function_handles = function_handles;
    function_instantiations = function_instantiations;
    struct_defs = struct_defs;
    struct_instantiations = struct_instantiations;
    field_handles = field_handles;
    field_instantiations = field_instantiations;
    constants = constants;
    function = record { start = p; item = view };
    blocks = blocks;
    code = instructions;
  })
  where
    k : Commands
    k = commands_of head

-- what a head byte opens: 01 module, 02 script
pub data HeadCommand : Type 0 where
  opened : Head → HeadCommand
  unopened : HeadCommand

-- the head byte as a command; any other opens nothing
abbrev pub head_command : ℕ → HeadCommand
head_command c = get_or (unopened ∷ opened Module ∷ opened Script ∷ []) c unopened

-- a unit after its head byte; an unknown head is refused at byte 0
unfoldable pub unit_after_head : HeadCommand → Reader Decoded
unit_after_head (opened head) = unit_under head
unit_after_head unopened = fail COMMAND 0

-- a head byte, and the unit under it
unfoldable pub unit : Reader Decoded
unit = do
  c ← byte
  unit_after_head (head_command c)

-- a whole unit: at most 32,768 bytes
unfoldable pub read_unit : List ℕ → Read Decoded
read_unit s = elim (leb (length s) 32768) [ true ↦ unit s 0 | false ↦ stop TOO_LONG 0 ]

-- what the two passes see of a unit that was read
unfoldable pub compiled_unit : Decoded → CompiledUnit
compiled_unit d = record {
  head = d.head;
  struct_handles = items d.struct_handles;
  signatures = items d.signatures;
  function_handles = items d.function_handles;
  function_instantiations = items d.function_instantiations;
  struct_defs = items d.struct_defs;
  struct_instantiations = items d.struct_instantiations;
  field_handles = items d.field_handles;
  field_instantiations = items d.field_instantiations;
  constants = items d.constants;
  function = d.function.item;
  blocks = items d.blocks;
  code = items d.code;
}
