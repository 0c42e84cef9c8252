-- What `read` answers of a unit, and what it leaves in the index: the view has for each table its entries in the index, and the index
-- has the place of each record, table after table, and then of each instruction.
use Rattle.std.specs.Prelude.{◌≡◌, List, [], ◌∷◌, ℕ, ◌+◌, ◌-◌, ◌≤◌, ◌<◌, length, get_or, take, Result, Ok, Err}
use Rattle.definitions.specs.CompiledUnit as defs
use Rattle.definitions.specs.Reading.{Read, read, stop}
use Rattle.definitions.specs.Reader.{Decoded, read_unit}
use Rattle.unit.specs.declared.Head.{Head}
use Rattle.unit.specs.declared.Table.{Table}
use Rattle.unit.specs.declared.View.{View}
use Rattle.record_reader.specs.declared.ReadError.{ReadError}
use Rattle.unit.specs.Outline.{starts, joined, base_from}

-- the code's head for the definition's
abbrev pub head_for : defs.Head → Head
head_for defs.Module = Head.Module
head_for defs.Script = Head.Script

-- the places of each table, of the blocks and of the code
abbrev pub segments : Decoded → List (List ℕ)
segments d =
    starts d.struct_handles ∷ starts d.signatures ∷ starts d.function_handles ∷ starts d.function_instantiations ∷ starts d.struct_defs
    ∷ starts d.struct_instantiations ∷ starts d.field_handles ∷ starts d.field_instantiations ∷ starts d.constants ∷ starts d.blocks
    ∷ starts d.code ∷ []

-- the entries of list k
abbrev pub table_in : ℕ → List (List ℕ) → Table
table_in k ls = record { base = base_from 0 k ls; count = length (get_or ls k []) }

unfoldable pub view_of : Decoded → View
view_of d = record {
  head = head_for d.head;
  struct_handles = table_in 0 (segments d);
  signatures = table_in 1 (segments d);
  function_handles = table_in 2 (segments d);
  function_instantiations = table_in 3 (segments d);
  struct_defs = table_in 4 (segments d);
  struct_instantiations = table_in 5 (segments d);
  field_handles = table_in 6 (segments d);
  field_instantiations = table_in 7 (segments d);
  constants = table_in 8 (segments d);
  function = d.function.start;
  blocks = table_in 9 (segments d);
  code = table_in 10 (segments d);
}

-- ── the view by where the tables begin ──

-- no table begins before the one in front of it, and all lie within the index
pub record Ordered (bases : List ℕ) : Type 0 where
  pub size : length bases ≡ 10
  pub rises : (i : ℕ) → i < 9 → get_or bases i 0 ≤ get_or bases (i + 1) 0
  pub small : (i : ℕ) → i < 10 → get_or bases i 0 ≤ 32768

-- the entries of table i
abbrev pub table_at : List ℕ → ℕ → Table
table_at bases i = record { base = get_or bases i 0; count = get_or bases (i + 1) 0 - get_or bases i 0 }

abbrev pub view_from : Head → List ℕ → ℕ → (blocks code : ℕ) → View
view_from head bases function blocks code = record {
  head = head;
  struct_handles = table_at bases 0;
  signatures = table_at bases 1;
  function_handles = table_at bases 2;
  function_instantiations = table_at bases 3;
  struct_defs = table_at bases 4;
  struct_instantiations = table_at bases 5;
  field_handles = table_at bases 6;
  field_instantiations = table_at bases 7;
  constants = table_at bases 8;
  function = function;
  blocks = record { base = get_or bases 9 0; count = blocks };
  code = record { base = get_or bases 9 0 + blocks; count = code };
}

-- ── what `read` promises ──

-- the answer for what is read
unfoldable pub answer_of : Read Decoded → Result View ReadError
answer_of (read d e) = Ok (view_of d)
answer_of (stop status p) = Err (record { status = status; at = p })

-- the index has the places of a unit that was read
unfoldable pub Indexed : Read Decoded → List ℕ → Type 0
Indexed (read d e) index = take (length (joined (segments d))) index ≡ joined (segments d)
Indexed (stop status p) index = Unit {0}

-- THE UNIT WAS READ: what a look-up asks of its caller, who has it from `read`
pub record UnitRead (s index : List ℕ) (view : View) : Type 0 where
  pub decoded : Decoded
  pub ends : ℕ
  pub reads : read_unit s ≡ read decoded ends
  pub viewed : view ≡ view_of decoded
  pub indexed : take (length (joined (segments decoded))) index ≡ joined (segments decoded)
