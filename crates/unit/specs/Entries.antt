-- The entries of each table in the index of a unit that was read: at entry i of a table is the place of its record i.
use Rattle.std.specs.Prelude.{◌≡◌, refl, take, get_or}
use Rattle.std.proofs.Math.Path.{sym}
use Rattle.std.proofs.Common.{ap, ◌∙◌, not-suc-le-zero, arith, length-take, get_or-take, get_or-append-add}
use mathlib.Core.List.{List, [], ◌∷◌, ◌++◌, append_assoc}
use Prim.Native.Nat.{ℕ, zero, suc, ◌+◌, ◌<◌}
use Rattle.std.proofs.Math.ListN.{length, length-append, get_or-append}
use Rattle.unit.specs.declared.View.{View}
use Rattle.unit.specs.Outline.{joined, base_from}
use Rattle.unit.specs.Views.{segments, UnitRead}

-- ── one list after another ──

-- xs has x at i
pub record Has (xs : List ℕ) (i x : ℕ) : Type 0 where
  pub there : i < length xs
  pub is : get_or xs i 0 ≡ x

module _ (xs : List ℕ) where
  at_first :
      (ys l r : List ℕ) (base : ℕ) → length ys ≡ base → take (base + length (l ++ r)) xs ≡ ys ++ (l ++ r) → (i : ℕ) → i < length l →
      Has xs (base + i) (get_or l i 0)
  at_first ys l r base n q i h =
      let m : i < length (l ++ r) = omega (arith, length-append l r) in
      record {
        there = omega (arith, sym (length-take (base + length (l ++ r)) xs) ∙ ap length q ∙ length-append ys (l ++ r));
        is =
            sym (get_or-take (base + length (l ++ r)) xs (base + i) 0 (omega arith)) ∙ ap (λ (zs : List ℕ). get_or zs (base + i) 0) q
            ∙ rw n at (get_or-append-add ys (l ++ r) i 0) ∙ get_or-append l r 0 i h;
      }

  at_list :
      (k base : ℕ) (ls : List (List ℕ)) (ys : List ℕ) → length ys ≡ base → take (base + length (joined ls)) xs ≡ ys ++ joined ls →
      (i : ℕ) → i < length (get_or ls k []) → Has xs (base_from base k ls + i) (get_or (get_or ls k []) i 0)
  unfolding joined base_from
  at_list zero base [] ys n q i h = absurd (not-suc-le-zero h)
  at_list (suc k) base [] ys n q i h = absurd (not-suc-le-zero h)
  at_list zero base (l ∷ ls) ys n q i h = at_first ys l (joined ls) base n q i h
  at_list (suc k) base (l ∷ ls) ys n q i h =
      let z : base + length l + length (joined ls) ≡ base + length (l ++ joined ls) = omega (arith, length-append l (joined ls)) in
      at_list k (base + length l) ls (ys ++ l) (length-append ys l ∙ omega arith) (rw z (q ∙ sym (append_assoc ys l (joined ls)))) i h

-- ── the tables of a unit ──

pub segment_at :
    {s index : List ℕ} {view : View} (u : UnitRead s index view) (k i : ℕ) → i < length (get_or (segments u.decoded) k []) →
    Has index (base_from 0 k (segments u.decoded) + i) (get_or (get_or (segments u.decoded) k []) i 0)
segment_at {s} {index} u k i h =
    let n : 0 + length (joined (segments u.decoded)) ≡ length (joined (segments u.decoded)) = omega arith in
    at_list index k 0 (segments u.decoded) [] refl (rw n u.indexed) i h
