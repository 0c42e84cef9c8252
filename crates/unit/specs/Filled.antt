-- What the functions of the reader answer for what the definitions read, and what they leave in the index.
use Rattle.std.specs.Prelude.{◌≡◌, List, ◌++◌, ℕ, ◌+◌, ◌≤◌, length, take, get_or, Result, Ok, Err}
use Rattle.definitions.specs.Reading.{Read, read, stop, Placed}
use Rattle.definitions.specs.Places.{TableAt}
use Rattle.definitions.specs.Commands.{commands_of}
use Rattle.definitions.specs.Reader.{code, block, items}
use Rattle.definitions.specs.CompiledUnit as defs
use Rattle.unit.specs.declared.Head.{Head}
use Rattle.record_reader.specs.declared.ReadError.{ReadError}
use Rattle.unit.specs.declared.Records.{Records}
use Rattle.unit.specs.declared.Listing.{Listing}
use Rattle.unit.specs.Outline.{starts, places, base_from, UnitListing}

-- the definition's head for the code's
abbrev pub head_of : Head → defs.Head
head_of Head.Module = defs.Module
head_of Head.Script = defs.Script

-- the index has room for what starts at the byte `from`: no more entries stand below base than bytes below from. It is asked of each function that
-- fills the index, which is lent as `&mut`: of what is behind one a ghost field says nothing
pub record Room (s : List ℕ) (from base : ℕ) (index : List ℕ) : Type 0 where
  pub below : base ≤ from
  pub inside : from ≤ length s
  pub small : length s ≤ 32768
  pub wide : length s ≤ length index

-- the places ps were written into the index from base on, and reading went on at the byte e
pub record Filled (s : List ℕ) (base : ℕ) (before ps : List ℕ) (e : ℕ) (after : List ℕ) : Type 0 where
  pub placed : take (base + length ps) after ≡ take base before ++ ps
  pub below : base + length ps ≤ e
  pub inside : e ≤ length s

-- the same of what was read, with its places; a refusal says nothing of the index
unfoldable pub FilledBy : {A : Type 0} → (A → List ℕ) → List ℕ → ℕ → List ℕ → Read A → List ℕ → Type 0
FilledBy places s base before (read a e) after = Filled s base before (places a) e after
FilledBy places s base before (stop status p) after = Unit {0}

-- ── answers ──

unfoldable pub table_of : Read (List ℕ) → Result Records ReadError
table_of (read ps e) = Ok (record { count = length ps; next = e })
table_of (stop status p) = Err (record { status = status; at = p })

unfoldable pub listing_of : Read UnitListing → Result Listing ReadError
listing_of (read l e) = Ok (record { blocks = length (starts l.blocks); code = length (starts l.code) })
listing_of (stop status p) = Err (record { status = status; at = p })

-- what is only judged
unfoldable pub judged_of : Read (Unit {0}) → Result (Unit {0}) ReadError
judged_of (read u e) = Ok tt
judged_of (stop status p) = Err (record { status = status; at = p })

-- the entries of each of the tables ls begin where bases says, and so does what is behind the last
pub record Rows (bases : List ℕ) (ls : List (List ℕ)) : Type 0 where
  pub size : length bases ≡ 10
  pub begin : (i : ℕ) → i ≤ length ls → get_or bases i 0 ≡ base_from 0 i ls

-- the same of tables that were read; a refusal says nothing
unfoldable pub RowsBy : Read (List (List ℕ)) → List ℕ → Type 0
RowsBy (read ls e) bases = Rows bases ls
RowsBy (stop status p) bases = Unit {0}

-- the answer for the code, and the index afterwards, whatever the head is
pub record CodeAnswered (s : List ℕ) (from base : ℕ) (before after : List ℕ) (r : Result Records ReadError) : Type 0 where
  pub answers : (head : defs.Head) → r ≡ table_of (places (code (commands_of head)) s from)
  pub fills : (head : defs.Head) → FilledBy (λ ps. ps) s base before (places (code (commands_of head)) s from) after

-- ── blocks ──

-- these are the places of these blocks, and the blocks stand there
pub record BlocksAt (s places : List ℕ) : Type 0 where
  pub blocks : List (Placed defs.Block)
  pub placed : places ≡ starts blocks
  pub stand : TableAt block s (starts blocks) (items blocks)
