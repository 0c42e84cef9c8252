-- Which commands open a record, by their range: a test that is computed over a range of numbers holds at each of them.
use mathlib.Core.Path.{◌≡◌, refl, sym, subst, ◌∙◌}
use mathlib.Core.Bool.{Bool, true, false, ◌&&◌}
use Prim.Native.Nat.{ℕ, zero, suc, ◌+◌, ◌-◌, ◌≤◌, ◌<◌}
use native.Mathlib.Nat.{add-zero, add-suc, suc-add, not-suc-le-zero}
use native.Mathlib.Omega.{arith}
use lib.Dec.{T}
use Rattle.definitions.specs.CompiledUnit as defs
use Rattle.definitions.specs.CompiledUnit.{Module, Script}
use Rattle.unit.specs.declared.Head.{Head}
use Rattle.unit.specs.Filled.{head_of}
use Rattle.definitions.specs.Commands.{commands_of, one_of, known}

-- two Bools are equal
abbrev agree : Bool → Bool → Bool
agree true b = b
agree false true = false
agree false false = true

agree_same : (a b : Bool) → T (agree a b) → a ≡ b
agree_same true true t = refl
agree_same true false t = absurd t
agree_same false true t = absurd t
agree_same false false t = refl

-- whether known commands are those that b says, at each of the n numbers from lo on
abbrev all : defs.Head → Bool → ℕ → ℕ → Bool
all head b lo zero = true
all head b lo (suc n) = agree b (known (commands_of head) lo) && all head b (suc lo) n

both : (a b : Bool) → T (a && b) → T a × T b
both true b t = (tt, t)
both false b t = absurd t

module _ (head : defs.Head) (b : Bool) where
  at_each : (n lo : ℕ) → T (all head b lo n) → (i : ℕ) → i < n → b ≡ known (commands_of head) (lo + i)
  at_each zero lo t i h = absurd (not-suc-le-zero h)
  at_each (suc n) lo t zero h = rw (add-zero lo) (agree_same b (known (commands_of head) lo) (both (agree b (known (commands_of head) lo)) (all head b (suc lo) n) t).0)
  at_each (suc n) lo t (suc i) h =
      subst (λ (k : ℕ). b ≡ known (commands_of head) k) (suc-add lo i ∙ sym (add-suc lo i))
      (at_each n (suc lo) (both (agree b (known (commands_of head) lo)) (all head b (suc lo) n) t).1 i (omega arith))

  known_between : (lo n : ℕ) → T (all head b lo n) → {c : ℕ} → lo ≤ c → c < lo + n → b ≡ known (commands_of head) c
  known_between lo n t {c} l h =
      let p : lo + (c - lo) ≡ c = omega arith in
      subst (λ (k : ℕ). b ≡ known (commands_of head) k) p (at_each n lo t (c - lo) (omega arith))

-- the same under either head
known_under_both :
    (b : Bool) (lo n : ℕ) → T (all Module b lo n) → T (all Script b lo n) → (head : defs.Head) {c : ℕ} → lo ≤ c → c < lo + n → b ≡ known (commands_of head) c
known_under_both b lo n t u Module l h = known_between Module b lo n t l h
known_under_both b lo n t u Script l h = known_between Script b lo n u l h

-- ── 10 to 13 and 18 to 1B under either head, 14 to 17 in a module ──

module _ (head : defs.Head) (c : ℕ) where
  pub known_handles : 0x10 ≤ c → c < 0x14 → true ≡ known (commands_of head) c
  unfolding known one_of
  known_handles = known_under_both true 0x10 4 tt tt head

  pub known_last : 0x18 ≤ c → c < 0x1C → true ≡ known (commands_of head) c
  unfolding known one_of
  known_last = known_under_both true 0x18 4 tt tt head

  pub unknown_below : c < 0x10 → false ≡ known (commands_of head) c
  unfolding known one_of
  unknown_below h = known_under_both false 0 16 tt tt head {c = c} (omega arith) h

  pub unknown_above : 0x1C ≤ c → c < 0x100 → false ≡ known (commands_of head) c
  unfolding known one_of
  unknown_above = known_under_both false 0x1C 228 tt tt head

module _ (head : Head) (c : ℕ) where
  pub known_definitions : head ≡ Head.Module → 0x14 ≤ c → c < 0x18 → true ≡ known (commands_of (head_of head)) c
  unfolding known one_of
  known_definitions q l h = rw q (known_between Module true 0x14 4 tt {c = c} l h)

  pub unknown_definitions : (head ≡ Head.Module → ⊥) → 0x14 ≤ c → c < 0x18 → false ≡ known (commands_of (head_of head)) c
  unfolding known one_of
  unknown_definitions f l h = go head f
    where
      go : (k : Head) → (k ≡ Head.Module → ⊥) → false ≡ known (commands_of (head_of k)) c
      go Head.Module f = absurd (f refl)
      go Head.Script f = known_between Script false 0x14 4 tt {c = c} l h

pub ruleset known_told = (known_handles, known_last, unknown_below, unknown_above, known_definitions, unknown_definitions)
