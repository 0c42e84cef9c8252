-- What arithmetic and comparisons ask of their operands.
use Rattle.std.specs.Prelude.{◌≡◌, Bool, ◌&&◌, List, ℕ}
use Rattle.definitions.specs.SignatureToken.{same, is_integer}
use Rattle.definitions.specs.Places.{TypeAt}
use Rattle.signature_token.specs.Same.{Spans}

-- r says whether the types at x and at y are integers, and the same
abbrev pub SameIntegers : List ℕ → ℕ → ℕ → ℕ → Bool → Type 0
SameIntegers a x l y r = (p : Spans a x l) (q : TypeAt a y) → r ≡ (is_integer p.type && same p.type q.type)
