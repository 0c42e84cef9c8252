-- What `blank` makes of three small units: it puts zeros for a loaded integer and a branch target, keeps a local, an index and a count, and
-- leaves what follows a refused instruction.
use Rattle.std.specs.Prelude.{◌≡◌, refl, List, [], ◌∷◌, ℕ}
use Rattle.definitions.specs.Reading as D
use Rattle.definitions.specs.Reading.{Read, read, stop, Reader, ◌>>=◌, ◌>>◌, give, fail, byte, u16}
use Rattle.definitions.specs.Commands as C
use Rattle.definitions.specs.Commands.{InstructionForm, plain, unkept, local, counted, Commands, commands_of, instruction_form}
use Rattle.definitions.specs.Reader as R
use Rattle.definitions.specs.Reader.{type, types, struct_handle, function_handle, function_instantiation, struct_definition, struct_def_instantiation, field_handle, field_instantiation, block, function_view, instruction, table, due, items, HeadCommand, opened, unopened, head_command}
use Rattle.theorems.specs.Blank.{before_instructions, before_under, before_unit, zeros, blank_from, blank}

-- a module with an empty signature for its function, and n instructions
unit_of : ℕ → List ℕ → List ℕ
unit_of n bytes =
    0x01 ∷ 0x11 ∷ 0x00 ∷ 0x19 ∷ 0x00 ∷ 0x00 ∷ 0x00 ∷ 0x00 ∷ 0x00 ∷ 0x00 ∷ 0x00 ∷ 0x1B ∷ n ∷ 0x00 ∷ bytes

-- LdU64, LdTrue, BrTrue: zeros for the integer and for the branch target. CopyLoc, LdConst, VecPack: a local, an index and a count
-- are kept. LdU8, an unknown opcode, LdU8: what follows a refused instruction stays
blank_examples :
    (blank (unit_of 3 (0x06 ∷ 1 ∷ 2 ∷ 3 ∷ 4 ∷ 5 ∷ 6 ∷ 7 ∷ 8 ∷ 0x0C ∷ 0x02 ∷ 9 ∷ 10 ∷ []))
    ≡ unit_of 3 (0x06 ∷ 0 ∷ 0 ∷ 0 ∷ 0 ∷ 0 ∷ 0 ∷ 0 ∷ 0 ∷ 0x0C ∷ 0x02 ∷ 0 ∷ 0 ∷ []))
    × (blank (unit_of 3 (0x0E ∷ 1 ∷ 0x0B ∷ 2 ∷ 3 ∷ 0x3F ∷ 4 ∷ 5 ∷ 6 ∷ 7 ∷ 8 ∷ 9 ∷ 10 ∷ 11 ∷ 12 ∷ 13 ∷ []))
    ≡ unit_of 3 (0x0E ∷ 1 ∷ 0x0B ∷ 2 ∷ 3 ∷ 0x3F ∷ 4 ∷ 5 ∷ 6 ∷ 7 ∷ 8 ∷ 9 ∷ 10 ∷ 11 ∷ 12 ∷ 13 ∷ []))
    × (blank (unit_of 3 (0x05 ∷ 1 ∷ 0x47 ∷ 0x05 ∷ 2 ∷ [])) ≡ unit_of 3 (0x05 ∷ 0 ∷ 0x47 ∷ 0x05 ∷ 2 ∷ []))
unfolding blank blank_from zeros before_unit before_under before_instructions unit_of R.table R.table_within C.known C.one_of D.◌>>=◌ D.◌>>◌ D.next D.byte D.here D.give D.fail D.need D.opens D.u16 D.number D.skip D.many R.due R.types R.type R.function_view R.signature_of R.items R.instruction R.operands C.instruction_form
blank_examples = (refl, refl, refl)
