-- That types stand at consecutive places has one proof at most: `Locals` keeps two such facts.
use Rattle.std.specs.Prelude.{◌≡◌, refl, List, ◌++◌, ℕ, drop}
use Rattle.std.specs.Coded.{×_prop, Coded-set, coded_list, coded_ℕ}
use Rattle.std.proofs.Common.{sym, ap, ◌∙◌}
use mathlib.Core.HLevel.{Σ_prop_path}
use Rattle.std.proofs.lemmas.List.{append_cancel_left}
use Rattle.definitions.specs.SignatureToken.{Signature}
use Rattle.definitions.specs.CompiledUnit.{FunctionView}
use Rattle.definitions.specs.Places.{At}
use Rattle.type_places.specs.Places.{Consecutive}

-- ── bytes at a place ──

module _ {s : List ℕ} {at : ℕ} {bs : List ℕ} where
  whole : (r : List ℕ) × (drop at s ≡ bs ++ r) → At s at bs
  whole x = record { rest = x.0; here = x.1 }

  parts : At s at bs → (r : List ℕ) × (drop at s ≡ bs ++ r)
  parts x = (x.rest, x.here)

  same_parts : (x y : At s at bs) → parts x ≡ parts y
  unfolding parts
  same_parts x y = Σ_prop_path (λ r. Coded-set (coded_list coded_ℕ) (drop at s) (bs ++ r)) (append_cancel_left bs x.rest y.rest (sym x.here ∙ y.here))

  pub At-prop : IsProp (At s at bs)
  unfolding whole parts
  At-prop x y = ap whole (same_parts x y)

-- ── types at consecutive places ──

pub Consecutive-prop : {s places : List ℕ} {ts : Signature} → IsProp (Consecutive s places ts)
Consecutive-prop Consecutive.none Consecutive.none = refl
Consecutive-prop (Consecutive.more k l r) (Consecutive.more m n q) = rw (At-prop k m, Coded-set coded_ℕ _ _ l n, Consecutive-prop r q) refl

-- the places of the types of the parameters and the end of the last one, and the same of the other locals
abbrev pub LocalPlaces : List ℕ → FunctionView → List ℕ → List ℕ → Type 0
LocalPlaces s f parameters locals = Consecutive s parameters f.parameters × Consecutive s locals f.locals

pub LocalPlaces-prop : (f : FunctionView) {s parameters locals : List ℕ} → IsProp (LocalPlaces s f parameters locals)
LocalPlaces-prop f = ×_prop Consecutive-prop Consecutive-prop
