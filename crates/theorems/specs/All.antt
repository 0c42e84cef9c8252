-- What holds of each element of a list.
use mathlib.Core.List.{List, [], ◌∷◌, map, Memᴰ}
use Rattle.std.specs.Prelude.{refl, ℕ, zero, suc, get_or}

pub data All {A : Type 0} (P : A → Type 0) : List A → Type 0 where
  none : All P []
  more : {a : A} {l : List A} → P a → All P l → All P (a ∷ l)

pub all_member : {A : Type 0} {P : A → Type 0} {l : List A} {a : A} → All P l → Memᴰ a l → P a
all_member (more h hs) (Memᴰ.head e) = rw e h
all_member (more h hs) (Memᴰ.tail m) = all_member hs m
all_member none m = elim m [ ]

pub all_tabulate : {A : Type 0} {P : A → Type 0} (l : List A) → ((a : A) → Memᴰ a l → P a) → All P l
all_tabulate [] f = none
all_tabulate (a ∷ l) f = more (f a (Memᴰ.head refl)) (all_tabulate l λ b m. f b (Memᴰ.tail m))

-- of what a function makes of each
pub all_map : {A B : Type 0} {P : A → Type 0} {Q : B → Type 0} (f : A → B) {l : List A} → ((a : A) → P a → Q (f a)) → All P l → All Q (map f l)
all_map f h none = none
all_map f h (more {a} p ps) = more (h a p) (all_map f h ps)

-- at any index, if the default has it too
pub all_get_d : {A : Type 0} {P : A → Type 0} {l : List A} {d : A} → All P l → P d → (i : ℕ) → P (get_or l i d)
all_get_d none h i = h
all_get_d (more p ps) h zero = p
all_get_d (more p ps) h (suc i) = all_get_d ps h i
