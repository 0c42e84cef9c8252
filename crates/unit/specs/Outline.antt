-- The reader of a unit in three parts, as the functions read it: the tables, the function, and the listing of blocks and code; and the
-- places alone of what is read, which is what the functions keep.
use Rattle.std.specs.Prelude.{List, [], ◌∷◌, ◌++◌, map, ℕ, zero, suc, ◌+◌, length}
use Rattle.definitions.specs.SignatureToken.{SignatureToken, Signature}
use Rattle.definitions.specs.Bytecode.{Bytecode}
use Rattle.definitions.specs.CompiledUnit.{StructHandle, FunctionHandle, FunctionInstantiation, StructDefinition, StructDefInstantiation, FieldHandle, FieldInstantiation, Block}
use Rattle.definitions.specs.Reading.{Reader, ◌>>=◌, ◌>>◌, give, Placed}
use Rattle.definitions.specs.Commands.{Commands}
use Rattle.definitions.specs.Reader.{table, due, code, end, blocks_within, type, types, struct_handle, function_handle, function_instantiation, struct_definition, struct_def_instantiation, field_handle, field_instantiation, block}
use Rattle.record_reader.specs.Bodies.{body_of}

-- the place of each
unfoldable pub starts : {A : Type 0} → List (Placed A) → List ℕ
starts l = map (λ (p : Placed _). p.start) l

-- what is read, with the places alone kept
unfoldable pub places : {A : Type 0} → Reader (List (Placed A)) → Reader (List ℕ)
places m = do
  l ← m
  give (starts l)

-- ── tables ──

-- the tables before the function
pub record UnitTables : Type 0 where
  pub struct_handles : List (Placed StructHandle)
  pub signatures : List (Placed Signature)
  pub function_handles : List (Placed FunctionHandle)
  pub function_instantiations : List (Placed FunctionInstantiation)
  pub struct_defs : List (Placed StructDefinition)
  pub struct_instantiations : List (Placed StructDefInstantiation)
  pub field_handles : List (Placed FieldHandle)
  pub field_instantiations : List (Placed FieldInstantiation)
  pub constants : List (Placed SignatureToken)

-- the places of each table
unfoldable pub places_of : UnitTables → List (List ℕ)
places_of t =
    starts t.struct_handles ∷ starts t.signatures ∷ starts t.function_handles ∷ starts t.function_instantiations ∷ starts t.struct_defs
    ∷ starts t.struct_instantiations ∷ starts t.field_handles ∷ starts t.field_instantiations ∷ starts t.constants ∷ []

-- one list after another
unfoldable pub joined : List (List ℕ) → List ℕ
joined [] = []
joined (l ∷ ls) = l ++ joined ls

-- where list k begins, if the first begins at base
unfoldable pub base_from : ℕ → ℕ → List (List ℕ) → ℕ
base_from base zero ls = base
base_from base (suc k) [] = base
base_from base (suc k) (l ∷ ls) = base_from (base + length l) k ls

module _ (commands : Commands) where
  -- the places of the records of a command
  unfoldable pub record_places : ℕ → Reader (List ℕ)
  record_places c = places (table commands c (body_of commands c))

  -- the places of the records of n commands in a row, the first of which is c
  unfoldable pub tables_within : ℕ → ℕ → Reader (List (List ℕ))
  tables_within zero c = give []
  tables_within (suc n) c = do
    ps ← record_places c
    rest ← tables_within n (c + 1)
    give (ps ∷ rest)

  -- and of the commands before the function's, 10 to 18
  unfoldable pub table_places : Reader (List (List ℕ))
  table_places = tables_within 9 0x10

  unfoldable pub unit_tables : Reader UnitTables
  unit_tables = do
    struct_handles ← table commands 0x10 struct_handle
    signatures ← table commands 0x11 (types commands)
    function_handles ← table commands 0x12 function_handle
    function_instantiations ← table commands 0x13 function_instantiation
    struct_defs ← table commands 0x14 (struct_definition commands)
    struct_instantiations ← table commands 0x15 struct_def_instantiation
    field_handles ← table commands 0x16 field_handle
    field_instantiations ← table commands 0x17 field_instantiation
    constants ← table commands 0x18 (type commands)
    give (record {
      struct_handles = struct_handles;
      signatures = signatures;
      function_handles = function_handles;
      function_instantiations = function_instantiations;
      struct_defs = struct_defs;
      struct_instantiations = struct_instantiations;
      field_handles = field_handles;
      field_instantiations = field_instantiations;
      constants = constants;
    })

-- ── blocks and code ──

pub record UnitListing : Type 0 where
  pub blocks : List (Placed Block)
  pub code : List (Placed Bytecode)

unfoldable pub in_listing : UnitListing → List ℕ
in_listing l = starts l.blocks ++ starts l.code

-- what stands after the function
unfoldable pub unit_listing : Commands → Reader UnitListing
unit_listing commands = do
  blocks ← table commands 0x1A block
  due commands 0x1B
  instructions ← code commands
  end
  blocks_within (length instructions) blocks
  give (record { blocks = blocks; code = instructions })
