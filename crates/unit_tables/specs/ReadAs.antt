-- That a unit was read, as a fact that has one proof at most: what was read of its bytes is a unit, which is the view's and the index's.
use Rattle.std.specs.Prelude.{◌≡◌, List, ℕ, length, take}
use Rattle.std.specs.Coded.{×_prop, Coded, Coded-set, coded_list, coded_ℕ}
use Rattle.definitions.specs.Reading.{Read, read, stop}
use Rattle.definitions.specs.Reader.{Decoded}
use Rattle.unit.specs.declared.View.{View}
use Rattle.unit.specs.Outline.{joined}
use Rattle.unit.specs.Views.{segments, view_of}

-- a unit was read, of which these are the view and the index
abbrev pub ReadAs : Read Decoded → List ℕ → View → Type 0
ReadAs (read d e) index view = (view ≡ view_of d) × (take (length (joined (segments d))) index ≡ joined (segments d))
ReadAs (stop status p) index view = ⊥

pub ReadAs-prop : Coded View → (x : Read Decoded) (index : List ℕ) (view : View) → IsProp (ReadAs x index view)
ReadAs-prop code (read d e) index view = ×_prop (Coded-set code view (view_of d)) (Coded-set (coded_list coded_ℕ) _ _)
ReadAs-prop code (stop status p) index view = λ x y. absurd x
