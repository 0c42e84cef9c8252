-- A list as a walk goes along it: what stands at a place is the first of what is left there. Both passes walk a block's instructions and the
-- blocks so.
use Rattle.std.specs.Prelude.{◌≡◌, refl, List, [], ◌∷◌, ℕ, zero, suc, ◌-◌, ◌≤◌, ◌<◌, length, take, drop}
use Rattle.std.proofs.Common.{ap, arith}
use Rattle.definitions.specs.Result.{ok, at}

-- what stands at a place of a list is the first of what is left there
pub from_place : {A : Type 0} (l : List A) (i : ℕ) {a : A} → at l i ≡ ok a → drop i l ≡ a ∷ drop (suc i) l
unfolding at
from_place [] i {a} e = let z : ◌≡◌ {A = ℕ} 0 1 = cc in absurd (omega arith)
from_place (b ∷ l) zero {a} e = let z : b ≡ a = cc in ap (λ x. x ∷ l) z
from_place (b ∷ l) (suc i) {a} e = from_place l i e

-- the list up to and with the place `last`, from the place i on
abbrev pub up_to : {A : Type 0} → ℕ → ℕ → List A → List A
up_to last i l = take (suc last - i) (drop i l)

pub up_to_more : {A : Type 0} (last i : ℕ) (l : List A) {a : A} → i ≤ last → at l i ≡ ok a → up_to last i l ≡ a ∷ up_to last (suc i) l
up_to_more last i l k e =
    let n : suc last - i ≡ suc (last - i) = omega arith in
    let m : suc last - suc i ≡ last - i = omega arith in
    rw (n, m, from_place l i e)

pub up_to_none : {A : Type 0} (last i : ℕ) (l : List A) → last < i → up_to last i l ≡ []
up_to_none last i l k = let n : suc last - i ≡ 0 = omega arith in rw n

-- nothing is left behind the end
pub past_end : {A : Type 0} (l : List A) (n : ℕ) → length l ≤ n → drop n l ≡ []
past_end [] zero k = refl
past_end [] (suc n) k = refl
past_end (a ∷ l) zero k = absurd (omega arith)
past_end (a ∷ l) (suc n) k = past_end l n (omega arith)
