-- The rule of the table of effects. One test, computed over the whole table with the unit and the operands left open, is carried to each
-- entry: `every` tests a list, and `at` reads the test off at a place.
use mathlib.Core.Path.{◌≡◌, refl}
use mathlib.Core.Bool.{Bool, true, false, ◌&&◌}
use mathlib.Core.List.{List, [], ◌∷◌}
use Prim.Native.Nat.{ℕ, zero, suc, ◌+◌, ◌<◌}
use native.Mathlib.Nat.{add-zero, zero-add, add-suc, suc-add, le_of_suc-le-suc, not-suc-le-zero}
use native.Mathlib.Omega.{arith}
use lib.Dec.{T, eqb, eqb→eq}
use lib.ListN.{length, get_or}
use Rattle.definitions.specs.Result.{Result, ok, err}
use Rattle.definitions.specs.CompiledUnit.{CompiledUnit}
use Rattle.definitions.specs.StackUsage as defs
use Rattle.record_views.specs.Records.{instruction_of}
use Rattle.instruction_effect.specs.declared.Effect.{Effect}
use Rattle.instruction_effect.specs.Effects.{looks_up, effect_of, EffectTable}

and_left : (a b : Bool) → T (a && b) → T a
and_left true b t = tt
and_left false b t = t

and_right : (a b : Bool) → T (a && b) → T b
and_right true b t = t
and_right false b t = absurd t

module _ {A : Type 0} (f : ℕ → A → Bool) where
  -- the test f passes at each entry of the list and its place, counted from i
  abbrev pub every : ℕ → List A → Bool
  every i [] = true
  every i (x ∷ xs) = f i x && every (suc i) xs

module _ {A : Type 0} (d : A) (f : ℕ → A → Bool) where
  from : (xs : List A) (i : ℕ) → T (every f i xs) → (k : ℕ) → k < length xs → T (f (i + k) (get_or xs k d))
  from [] i t k h = absurd (not-suc-le-zero h)
  from (x ∷ xs) i t zero h = rw add-zero (and_left (f i x) (every f (suc i) xs) t)
  from (x ∷ xs) i t (suc k) h = rw (add-suc, ← suc-add) (from xs (suc i) (and_right (f i x) (every f (suc i) xs) t) k (le_of_suc-le-suc h))

  at : (xs : List A) → T (every f 0 xs) → (k : ℕ) → k < length xs → T (f k (get_or xs k d))
  at xs t k h = rw zero-add at (from xs 0 t k h)

-- ── the test ──

abbrev same_effect : Result defs.Effect → defs.Effect → Bool
same_effect (ok e) p = eqb e.pops p.pops && eqb e.pushes p.pushes
same_effect (err status) p = false

same_effect_law : (r : Result defs.Effect) (p : defs.Effect) → T (same_effect r p) → r ≡ ok p
same_effect_law (ok e) p t =
    let pops = eqb→eq e.pops p.pops (and_left (eqb e.pops p.pops) (eqb e.pushes p.pushes) t) in
    let pushes = eqb→eq e.pushes p.pushes (and_right (eqb e.pops p.pops) (eqb e.pushes p.pushes) t) in
    λ i. ok (record { pops = pops i; pushes = pushes i })
same_effect_law (err status) p t = absurd t

-- the test of an entry, by whether the opcode looks its effect up and whether the pair is marked
abbrev passes : Bool → Bool → Result defs.Effect → defs.Effect → Bool
passes true marked r p = marked
passes false true r p = false
passes false false r p = same_effect r p

-- at each entry, with the unit and the operands left open
unfoldable pub agrees : CompiledUnit → ℕ → ℕ → ℕ → ℕ → Effect → Bool
agrees u l x n opcode pair = passes (looks_up opcode) (eqb pair.0 0xFF) (defs.instruction_effect u (instruction_of opcode l x n)) (effect_of pair)

-- 71 pairs that pass the test are those of the opcodes
pub tested : (table : List Effect) → length table ≡ 71 → ((u : CompiledUnit) (l x n : ℕ) → T (every (agrees u l x n) 0 table)) → EffectTable table
unfolding agrees
tested table long t = record {
  entry = λ opcode h d. record {
    is = λ u l x n.
        let k = passed (looks_up opcode) _ _ _ (at d (agrees u l x n) table (t u l x n) opcode (omega arith)) in
        record { marked = k.0; agrees = k.1 };
  };
}
  where
    passed : (looks marked : Bool) (r : Result defs.Effect) (p : defs.Effect) → T (passes looks marked r p) → (looks ≡ marked) × (looks ≡ false → r ≡ ok p)
    passed true true r p t = (refl, λ e. let z : ◌≡◌ {A = ℕ} 0 1 = cc in absurd (omega arith))
    passed true false r p t = absurd t
    passed false true r p t = absurd t
    passed false false r p t = (refl, λ e. same_effect_law r p t)
