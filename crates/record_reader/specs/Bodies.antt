-- The readers of this crate's functions, where the definitions have no name for one; what follows a type's command.
use Rattle.std.specs.Prelude.{◌≡◌, Bool, true, false, List, ℕ, eqb, get_or, Option, Some, None, Ok}
use Rattle.definitions.specs.Reading.{Reader, ◌>>=◌, byte, many}
use Rattle.definitions.specs.Commands.{TypeCommand, leaf, over, instantiation, type_commands, Commands, commands_of}
use Rattle.definitions.specs.CompiledUnit.{Head}
use Rattle.definitions.specs.Reader.{type, type_within, types, struct_handle, pair_of, struct_definition}
use Rattle.record_reader.specs.ReadTo.{forget, read_to}
use Rattle.record_reader.specs.declared.TypeShape.{TypeShape}
use Rattle.record_reader.specs.declared.TypeShape.TheVariants.{Leaf, Over, Index, Instantiation, Unknown}

-- u8 count, and that many of a kind
unfoldable pub counted : {A : Type 0} → Reader A → Reader (List A)
counted r = do
  n ← byte
  many n r

-- two u16, whatever is made of them
unfoldable pub pair : Reader (Unit {0})
pair = pair_of (λ a b. tt)

abbrev pub if_else : {A : Type 0} → Bool → A → A → A
if_else true a b = a
if_else false a b = b

-- the body of a record of a table, by its command: all but `10`, `11`, `14` and `18` are two u16
unfoldable pub body_of : Commands → ℕ → Reader (Unit {0})
body_of commands c =
    if_else (eqb c 0x10) (forget struct_handle)
    (if_else (eqb c 0x11) (forget (types commands))
    (if_else (eqb c 0x14) (forget (struct_definition commands)) (if_else (eqb c 0x18) (forget (type commands)) pair)))

-- ── what follows a command ──

abbrev pub shape_of : TypeCommand → TypeShape
shape_of (leaf t) = Leaf
shape_of (over f) = Over
shape_of (TypeCommand.index f) = Index
shape_of instantiation = Instantiation
shape_of TypeCommand.unknown = Unknown

abbrev pub type_shape : ℕ → TypeShape
type_shape c = shape_of (get_or type_commands c TypeCommand.unknown)

-- the type at `at` ends where the answer says, if it says where
abbrev pub PlainEnd : List ℕ → ℕ → ℕ → Option ℕ → Type 0
PlainEnd s at levels (Some end) = (head : Head) → Ok end ≡ read_to (type_within (commands_of head) levels s at)
PlainEnd s at levels None = Unit {0}
