-- A range of numbers as two inequalities, and back.
use Rattle.std.specs.Prelude.{Bool, true, false, ◌&&◌, ◌||◌, [], ◌∷◌, ℕ, ◌≤◌, T, leb}
use Rattle.std.proofs.Common.{leb→le, le→leb}
use Rattle.theorems.specs.Numbers.{◌to◌, among}

module _ (a b n : ℕ) where
  pub range_bounds : T (among (a to b ∷ []) n) → (a ≤ n) × (n ≤ b)
  range_bounds t = go (leb a n) (leb n b) t (leb→le a n) (leb→le n b)
    where
      go : (x y : Bool) → T ((x && y) || false) → (T x → a ≤ n) → (T y → n ≤ b) → (a ≤ n) × (n ≤ b)
      go true true t f g = (f tt, g tt)
      go true false t f g = absurd t
      go false y t f g = absurd t

  pub in_range : a ≤ n → n ≤ b → T (among (a to b ∷ []) n)
  in_range l h = go (leb a n) (leb n b) (le→leb a n l) (le→leb n b h)
    where
      go : (x y : Bool) → T x → T y → T ((x && y) || false)
      go true true t u = tt
      go true false t u = absurd u
      go false y t u = absurd t
