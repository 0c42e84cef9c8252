-- Lists of places in the index, one behind the other, and where each begins.
use mathlib.Core.Path.{◌≡◌, refl, sym, ap, ◌∙◌}
use mathlib.Core.Bool.{Bool, true, false}
use mathlib.Core.List.{List, [], ◌∷◌, ◌++◌, append_assoc, append-nil}
use Prim.Native.Nat.{ℕ, zero, suc, ◌+◌, ◌-◌, ◌≤◌, ◌<◌}
use native.Mathlib.Omega.{arith}
use borrow.Author.Tests.{eqb-true, eqb-false}
use lib.Dec.{eqb}
use lib.ListN.{length, get_or, set, length-append, length-set}
use lib.Seq.{get_or-set_same, get_or-set_other}
use Rattle.unit.specs.Outline.{joined, base_from}
use Rattle.unit.specs.Filled.{Rows}
use Rattle.unit.specs.Views.{table_in, table_at, Ordered}

-- ── one list more ──

pub joined_one : (ls : List (List ℕ)) (l : List ℕ) → joined (ls ++ (l ∷ [])) ≡ joined ls ++ l
unfolding joined
joined_one [] l = append-nil l
joined_one (k ∷ ls) l = ap (λ (r : List ℕ). k ++ r) (joined_one ls l) ∙ sym (append_assoc k (joined ls) l)

-- where a list begins does not hang on what is behind it
base_before : (base i : ℕ) (ls ks : List (List ℕ)) → i ≤ length ls → base_from base i (ls ++ ks) ≡ base_from base i ls
unfolding base_from
base_before base zero ls ks h = refl
base_before base (suc i) [] ks h = absurd (omega arith)
base_before base (suc i) (l ∷ ls) ks h = base_before (base + length l) i ls ks (omega arith)

-- what is behind all of them begins where they end
base_end : (base : ℕ) (ls : List (List ℕ)) → base_from base (length ls) ls ≡ base + length (joined ls)
unfolding base_from joined
base_end base [] = omega arith
base_end base (l ∷ ls) = base_end (base + length l) ls ∙ omega (arith, length-append l (joined ls))

module _ {bases : List ℕ} {ls : List (List ℕ)} (v : Rows bases ls) where
  pub rows_one : (l : List ℕ) {b : ℕ} → length ls < 9 → b ≡ length (joined ls) + length l → Rows (set bases (length ls + 1) b) (ls ++ (l ∷ []))
  rows_one l {b} h q = record { size = length-set bases (length ls + 1) b ∙ v.size; begin = λ i k. go i (eqb i (length ls + 1)) refl (omega (arith, length-append ls (l ∷ []))) }
    where
      last : base_from 0 (length ls + 1) (ls ++ (l ∷ [])) ≡ b
      last =
          let n : length (ls ++ (l ∷ [])) ≡ length ls + 1 = length-append ls (l ∷ []) in
          rw n at (base_end 0 (ls ++ (l ∷ []))) ∙ rw (joined_one ls l) (omega (arith, length-append (joined ls) l))

      go : (i : ℕ) → (t : Bool) → eqb i (length ls + 1) ≡ t → i ≤ length ls + 1 → get_or (set bases (length ls + 1) b) i 0 ≡ base_from 0 i (ls ++ (l ∷ []))
      go i true e k =
          let z = eqb-true i (length ls + 1) e in
          rw z (get_or-set_same bases (length ls + 1) b 0 (omega (arith, v.size)) ∙ sym last)
      go i false e k =
          let n : i ≡ length ls + 1 → ⊥ = eqb-false i (length ls + 1) e in
          let m : i ≤ length ls = omega arith in
          get_or-set_other bases (length ls + 1) i b 0 n ∙ v.begin i m ∙ sym (base_before 0 i ls (l ∷ []) m)

-- ── the tables ──

-- a list begins behind the one before it
pub base_next : (base i : ℕ) (ls : List (List ℕ)) → base_from base (suc i) ls ≡ base_from base i ls + length (get_or ls i [])
unfolding base_from
base_next base zero [] = omega arith
base_next base zero (l ∷ ls) = refl
base_next base (suc i) [] = omega arith
base_next base (suc i) (l ∷ ls) = base_next (base + length l) i ls

-- and none behind where they all end
base_inside : (base i : ℕ) (ls : List (List ℕ)) → base_from base i ls ≤ base + length (joined ls)
unfolding base_from joined
base_inside base zero ls = omega arith
base_inside base (suc i) [] = omega arith
base_inside base (suc i) (l ∷ ls) = omega (arith, base_inside (base + length l) i ls, length-append l (joined ls))

module _ {bases : List ℕ} {ls : List (List ℕ)} (v : Rows bases ls) where
  next_at : (i : ℕ) → i < length ls → get_or bases (i + 1) 0 ≡ base_from 0 (suc i) ls
  next_at i h = let z : i + 1 ≡ suc i = omega arith in rw z (v.begin (suc i) h)

  -- the entries of a table
  pub row : (i : ℕ) → i < length ls → table_at bases i ≡ table_in i ls
  row i h =
      let b = v.begin i (omega arith) in
      let n : get_or bases (i + 1) 0 - get_or bases i 0 ≡ length (get_or ls i []) = omega (arith, next_at i h, base_next 0 i ls) in
      rw (n, b) refl

  -- behind the last
  pub row_end : length ls ≡ 9 → get_or bases 9 0 ≡ length (joined ls)
  row_end n = rw n at (v.begin (length ls) (omega arith) ∙ base_end 0 ls) ∙ omega arith

  pub rows_ordered : length ls ≡ 9 → length (joined ls) ≤ 32768 → Ordered bases
  rows_ordered n h =
      record {
        size = v.size;
        rises = λ i k. omega (arith, v.begin i (omega arith), next_at i (omega arith), base_next 0 i ls);
        small = λ i k. omega (arith, v.begin i (omega arith), base_inside 0 i ls);
      }
