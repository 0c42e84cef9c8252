-- What a function of this crate answers for what a reader of the definitions gives: the value is left out.
use Rattle.std.specs.Prelude.{ℕ, Result, Ok, Err}
use Rattle.definitions.specs.Reading.{Read, read, stop, Reader, ◌>>◌, give}
use Rattle.record_reader.specs.declared.ReadError.{ReadError}

unfoldable pub read_to : {A : Type 0} → Read A → Result ℕ ReadError
read_to (read a e) = Ok e
read_to (stop status p) = Err (record { status = status; at = p })

-- a reader with its value left out
unfoldable pub forget : {A : Type 0} → Reader A → Reader (Unit {0})
forget m = do
  m
  give tt
