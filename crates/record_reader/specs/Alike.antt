-- Readers that are alike: at each position both go on at the same byte, or both refuse it alike; only their values differ. One law for
-- each way in which readers are put together. So a reader that keeps a value is taken for one that keeps less, as a u16 for two bytes.
use Rattle.std.proofs.Math.Path.{◌≡◌, refl, ap}
use Rattle.std.proofs.Common.{sym, ◌∙◌, add_assoc, arith, lt-ltb, le-ltb, le-leb}
use mathlib.Core.List.{List}
use Prim.Native.Nat.{ℕ, zero, suc, ◌+◌, ◌*◌, ◌≤◌, ◌<◌}
use Rattle.std.proofs.Math.Decide.{dec_le}
use Rattle.std.specs.Prelude.{length, get_or}
use Rattle.std.proofs.lemmas.Bool.{lt-leb}
use Rattle.status.specs.declared.StatusCode.TheVariants.{SHORT}
use Rattle.definitions.specs.Reading.{Read, read, stop, Reader, next, ◌>>=◌, ◌>>◌, give, byte, u16, number, skip, many}
use Rattle.definitions.specs.Reader.{pair_of}
use Rattle.record_reader.specs.ReadTo.{read_to, forget}

pub record Alike {A B : Type 0} (m : Reader A) (n : Reader B) : Type 0 where
  pub alike : (s : List ℕ) (at : ℕ) → read_to (m s at) ≡ read_to (n s at)

-- ── bytes ──

module _ (s : List ℕ) (at : ℕ) where
  pub byte_next : at < length s → byte s at ≡ read (get_or s at 0) (at + 1)
  unfolding byte
  byte_next h = rw (lt-ltb at (length s) h, byte)

  pub byte_short : length s ≤ at → byte s at ≡ stop SHORT (length s)
  unfolding byte
  byte_short h = rw (le-ltb at (length s) h, byte)

  module _ (n : ℕ) where
    pub skip_next : at + n ≤ length s → skip n s at ≡ read tt (at + n)
    unfolding skip
    skip_next h = rw (le-leb (at + n) (length s) h, skip)

    pub skip_short : length s < at + n → skip n s at ≡ stop SHORT (length s)
    unfolding skip
    skip_short h = rw (lt-leb (at + n) (length s) h, skip)

-- ── putting readers together ──

module _ {A B : Type 0} {m : Reader A} {n : Reader B} where
  pub alike_sym : Alike m n → Alike n m
  alike_sym h = record { alike = λ s at. sym (h.alike s at) }

  pub alike_trans : {C : Type 0} {o : Reader C} → Alike m n → Alike n o → Alike m o
  alike_trans h k = record { alike = λ s at. h.alike s at ∙ k.alike s at }

  pub alike_then :
      {C D : Type 0} {f : A → Reader C} {g : B → Reader D} → Alike m n → ((a : A) (b : B) → Alike (f a) (g b)) → Alike (m >>= f) (n >>= g)
  unfolding ◌>>=◌ read_to next
  alike_then {C} {D} {f} {g} h k = record { alike = λ s at. go s (m s at) (n s at) (h.alike s at) }
    where
      go : (s : List ℕ) (x : Read A) (y : Read B) → read_to x ≡ read_to y → read_to (next x (λ a e. f a s e)) ≡ read_to (next y (λ b e. g b s e))
      go s (read a e) (read b d) q = let z : e ≡ d = cc in (k a b).alike s e ∙ ap (λ (x : ℕ). read_to (g b s x)) z
      go s (read a e) (stop w p) q = let z : ◌≡◌ {A = ℕ} 0 1 = cc in absurd (omega arith)
      go s (stop w p) (read b d) q = let z : ◌≡◌ {A = ℕ} 0 1 = cc in absurd (omega arith)
      go s (stop w p) (stop v o) q = q

pub alike_self : {A : Type 0} (m : Reader A) → Alike m m
alike_self m = record { alike = λ s at. refl }

module _ {A B : Type 0} where
  -- what is made of a value does not matter
  pub alike_map : (m : Reader A) (g : A → B) → Alike (m >>= λ a. give (g a)) m
  unfolding ◌>>=◌ next give read_to
  alike_map m g = record { alike = λ s at. go (m s at) }
    where
      go : (x : Read A) → read_to (next x (λ a e. read (g a) e)) ≡ read_to x
      go (read a e) = refl
      go (stop w p) = refl

  -- what is read first is the same, with its value
  pub alike_after : {C : Type 0} (m : Reader A) {f : A → Reader B} {g : A → Reader C} → ((a : A) → Alike (f a) (g a)) → Alike (m >>= f) (m >>= g)
  unfolding ◌>>=◌ next read_to
  alike_after {C} m {f} {g} k = record { alike = λ s at. go s (m s at) }
    where
      go : (s : List ℕ) (x : Read A) → read_to (next x (λ a e. f a s e)) ≡ read_to (next x (λ a e. g a s e))
      go s (read a e) = (k a).alike s e
      go s (stop w p) = refl

pub alike_forget : {A : Type 0} (m : Reader A) → Alike (forget m) m
unfolding forget ◌>>◌ ◌>>=◌ give
alike_forget m = record { alike = λ s at. (alike_map m (λ a. tt {0})).alike s at }

pub map_alike : {A B C : Type 0} {m : Reader A} {n : Reader B} → Alike m n → (g : A → C) → Alike (m >>= λ a. give (g a)) n
map_alike {A} {B} {C} {m} h g = alike_trans (alike_map m g) h

module _ {A B : Type 0} {m : Reader A} {n : Reader B} (h : Alike m n) where
  pub many_alike : (k : ℕ) → Alike (many k m) (many k n)
  unfolding many give read_to
  many_alike zero = record { alike = λ s at. refl }
  many_alike (suc k) = alike_then h (λ a b. alike_trans (map_alike (many_alike k) _) (alike_sym (alike_map (many k n) _)))

-- ── readers that take so many bytes, whatever they are ──

pub byte_takes : Alike byte (skip 1)
unfolding read_to
byte_takes = record { alike = λ s at. go s at (dec_le (at + 1) (length s)) }
  where
    go : (s : List ℕ) (at : ℕ) → Dec (at + 1 ≤ length s) → read_to (byte s at) ≡ read_to (skip 1 s at)
    go s at (yes h) = rw (byte_next s at (omega arith), skip_next s at 1 h)
    go s at (no h) = rw (byte_short s at (omega arith), skip_short s at 1 (omega arith))

-- so many bytes and then so many are as many together
skip_skip : (a b : ℕ) → Alike (skip a >>= λ _. skip b) (skip (a + b))
unfolding read_to ◌>>=◌ next
skip_skip a b = record { alike = λ s at. go s at (dec_le (at + a) (length s)) }
  where
    go : (s : List ℕ) (at : ℕ) → Dec (at + a ≤ length s) → read_to ((skip a >>= λ _. skip b) s at) ≡ read_to (skip (a + b) s at)
    go s at (yes h) = rw (skip_next s at a h) (rest (dec_le (at + a + b) (length s)))
      where
        rest : Dec (at + a + b ≤ length s) → read_to (skip b s (at + a)) ≡ read_to (skip (a + b) s at)
        rest (yes k) = rw (skip_next s (at + a) b k, skip_next s at (a + b) (omega arith), add_assoc at a b)
        rest (no k) = rw (skip_short s (at + a) b (omega arith), skip_short s at (a + b) (omega arith))
    go s at (no h) = rw (skip_short s at a (omega arith), skip_short s at (a + b) (omega arith))

module _ (a b : ℕ) {A B : Type 0} {m : Reader A} {f : A → Reader B} where
  pub takes_then : Alike m (skip a) → ((x : A) → Alike (f x) (skip b)) → Alike (m >>= f) (skip (a + b))
  takes_then h k = alike_trans (alike_then h (λ x _. k x)) (skip_skip a b)

pub u16_takes : Alike u16 (skip 2)
unfolding u16
u16_takes = takes_then 1 1 byte_takes (λ lo. map_alike byte_takes _)

pub number_takes : (n : ℕ) → Alike (number (suc n)) (skip (suc n))
unfolding number ◌>>=◌ next give
number_takes zero = map_alike byte_takes (λ lo. lo + 256 * 0)
number_takes (suc n) =
    let e : 1 + suc n ≡ suc (suc n) = omega arith in
    rw (← e) (takes_then 1 (suc n) byte_takes (λ lo. map_alike (number_takes n) _))

pub pair_of_takes : {A : Type 0} (f : ℕ → ℕ → A) → Alike (pair_of f) (skip 4)
unfolding pair_of
pair_of_takes f = takes_then 2 2 u16_takes (λ a. map_alike u16_takes _)
