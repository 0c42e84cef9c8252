-- `blank` puts zeros for the bytes of every loaded integer and every code offset of a unit, as far as the unit is read. Two units
-- differ only in loaded integers or branch targets where it makes the same of both.
use Rattle.std.specs.Prelude.{List, ℕ, zero, suc, ◌+◌, get_or, replicate}
use Rattle.std.proofs.lemmas.List.Edits.{sets}
use Rattle.status.specs.declared.StatusCode.TheVariants.{COMMAND}
use Rattle.definitions.specs.Bytecode.{Bytecode}
use Rattle.definitions.specs.CompiledUnit.{Head}
use Rattle.definitions.specs.Reading.{Read, read, stop, Reader, ◌>>=◌, ◌>>◌, give, fail, byte, u16}
use Rattle.definitions.specs.Commands.{InstructionForm, plain, unkept, local, counted, Commands, commands_of, instruction_form}
use Rattle.definitions.specs.Reader.{type, types, struct_handle, function_handle, function_instantiation, struct_definition, struct_def_instantiation, field_handle, field_instantiation, block, function_view, instruction, table, due, items, HeadCommand, opened, unopened, head_command}

-- the instructions of a unit: their commands and their number
pub record Instructions : Type 0 where
  pub commands : Commands
  pub count : ℕ

-- up to the first instruction, as `unit_under` reads
unfoldable pub before_instructions : Head → Reader Instructions
before_instructions head = do
  _ ← table k 0x10 struct_handle
  signatures ← table k 0x11 (types k)
  _ ← table k 0x12 function_handle
  _ ← table k 0x13 function_instantiation
  _ ← table k 0x14 (struct_definition k)
  _ ← table k 0x15 struct_def_instantiation
  _ ← table k 0x16 field_handle
  _ ← table k 0x17 field_instantiation
  _ ← table k 0x18 (type k)
  due k 0x19
  _ ← function_view (items signatures)
  _ ← table k 0x1A block
  due k 0x1B
  n ← u16
  give (record { commands = k; count = n })
  where
    k : Commands
    k = commands_of head

unfoldable pub before_under : HeadCommand → Reader Instructions
before_under (opened head) = before_instructions head
before_under unopened = fail COMMAND 0

unfoldable pub before_unit : Reader Instructions
before_unit = do
  c ← byte
  before_under (head_command c)

-- how many bytes of a loaded integer or a code offset follow the opcode
abbrev pub unkept_bytes : InstructionForm → ℕ
unkept_bytes (plain i) = 0
unkept_bytes (unkept n i) = n
unkept_bytes (local f) = 0
unkept_bytes (InstructionForm.index f) = 0
unkept_bytes (counted f) = 0
unkept_bytes InstructionForm.unknown = 0

-- n zeros from `at` on
unfoldable pub zeros : ℕ → ℕ → List ℕ → List ℕ
zeros at n s = sets s at (replicate n 0)

-- zeros for what is not kept of the instruction at `at`, and `rest` from its end on; a refused instruction and what follows it stay
abbrev pub blank_one : Commands → ℕ → List ℕ → (ℕ → List ℕ) → Read Bytecode → List ℕ
blank_one commands at s rest (read i e) = zeros (at + 1) (unkept_bytes (instruction_form commands (get_or s at 0))) (rest e)
blank_one commands at s rest (stop w p) = s

-- n instructions from `at` on
unfoldable pub blank_from : Commands → ℕ → ℕ → List ℕ → List ℕ
blank_from commands zero at s = s
blank_from commands (suc n) at s = blank_one commands at s (λ e. blank_from commands n e s) (instruction commands s at)

-- by what the records before the instructions are read as; a unit whose records are refused stays
abbrev pub blank_by : List ℕ → Read Instructions → List ℕ
blank_by s (read i e) = blank_from i.commands i.count e s
blank_by s (stop w p) = s

unfoldable pub blank : List ℕ → List ℕ
blank s = blank_by s (before_unit s 0)
