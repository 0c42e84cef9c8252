-- A property that every type has, and that every step keeps: by it the laws of the steps speak of statuses and heights alone.
use Rattle.definitions.specs.SignatureToken.{SignatureToken}
use Rattle.definitions.specs.CompiledUnit.{CompiledUnit}
use Rattle.theorems.specs.Kept.{Kept}

-- nothing is asked of a type
abbrev pub Anything : SignatureToken → Type 0
Anything t = Unit {0}

pub kept_anything : (u : CompiledUnit) → Kept u Anything
kept_anything u = record {
  made = λ m. tt;
  vector = λ m. tt;
  reference = λ mut m. tt;
  referent = λ t t' h e. tt;
  frozen = λ t t' h e. tt;
}
