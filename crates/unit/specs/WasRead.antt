-- What a caller of `read` has where the answer is a view: the unit was read.
use Rattle.std.proofs.Math.Path.{◌≡◌, refl}
use Rattle.std.specs.Prelude.{List, ℕ, Result, Ok, Err}
use Rattle.std.proofs.Common.{arith}
use Rattle.definitions.specs.Reading.{Read, read, stop}
use Rattle.definitions.specs.Reader.{Decoded, read_unit}
use Rattle.unit.specs.declared.View.{View}
use Rattle.record_reader.specs.declared.ReadError.{ReadError}
use Rattle.unit.specs.Views.{answer_of, Indexed, UnitRead}

module _ (s index : List ℕ) {r : Result View ReadError} (q : r ≡ answer_of (read_unit s)) where
  pub was_read : Indexed (read_unit s) index → {view : View} → r ≡ Ok view → UnitRead s index view
  unfolding answer_of Indexed
  was_read i {view} k = go (read_unit s) refl q i
    where
      go : (x : Read Decoded) → read_unit s ≡ x → r ≡ answer_of x → Indexed x index → UnitRead s index view
      go (read d e) p q i = record { decoded = d; ends = e; reads = p; viewed = cc; indexed = i }
      go (stop w o) p q i = let z : ◌≡◌ {A = ℕ} 0 1 = cc in absurd (omega arith)

  pub was_refused : {e : ReadError} → r ≡ Err e → read_unit s ≡ stop e.status e.at
  unfolding answer_of
  was_refused {e} k = go (read_unit s) q
    where
      go : (x : Read Decoded) → r ≡ answer_of x → x ≡ stop e.status e.at
      go (read d o) q = let z : ◌≡◌ {A = ℕ} 0 1 = cc in absurd (omega arith)
      go (stop v o) q = cc
