-- `PartialVMResult` of errors.rs, without its message and sub-status: a value, or the status of a refusal. `◌>>?◌` is the Rust's `?`.
-- Where the Rust indexes a vector and panics past its end, `at` refuses with OUT_OF_TABLE.
use Rattle.std.specs.Prelude.{List, ℕ}
use Rattle.std.proofs.Math.Option.{Option, some, none}
use Rattle.std.proofs.Math.ListN.{get_elem?}
use Rattle.status.specs.declared.StatusCode.{StatusCode}
use Rattle.status.specs.declared.StatusCode.TheVariants.{OUT_OF_TABLE}

-- `Ok` or `Err`
pub data Result (A : Type 0) : Type 0 where
  ok : A → Result A
  err : StatusCode → Result A

infixl 40 ◌>>?◌
-- go on with the value; a refusal stays
unfoldable pub ◌>>?◌ : {A B : Type 0} → Result A → (A → Result B) → Result B
◌>>?◌ (ok a) f = f a
◌>>?◌ (err status) f = err status

-- a value that may be missing
abbrev pub or_err : {A : Type 0} → StatusCode → Option A → Result A
or_err status none = err status
or_err status (some a) = ok a

-- `v[i]`: OUT_OF_TABLE past the end
unfoldable pub at : {A : Type 0} → List A → ℕ → Result A
at l i = or_err OUT_OF_TABLE (get_elem? l i)
