-- What readers put together answer, one law for each way of putting together, in terms of what their parts answer.
use Rattle.std.proofs.Common.{◌≡◌, refl, ap, ℕ, suc, ◌+◌, ◌-◌, ◌≤◌, ◌<◌, List, length, get_or, Result, Ok, Err, arith}
use Rattle.status.specs.declared.StatusCode.TheVariants.{SHORT}
use Rattle.definitions.specs.Reading.{Read, read, stop, Reader, next, ◌>>=◌, give, skip, many}
use Rattle.record_reader.specs.declared.ReadError.{ReadError}
use Rattle.record_reader.specs.ReadTo.{read_to}
use Rattle.record_reader.specs.Alike.{alike_map, byte_next, byte_short, skip_next, skip_short}
use Rattle.record_reader.specs.Bodies.{counted}

-- `?`: what follows is asked where the answer says how to go on
abbrev pub and_then : {A : Type 0} → Result ℕ ReadError → (ℕ → Result A ReadError) → Result A ReadError
and_then (Ok e) f = f e
and_then (Err w) f = Err w

module _ {A B : Type 0} (m : Reader A) (f : A → Reader B) (n : ℕ → Result ℕ ReadError) (s : List ℕ) (at : ℕ) where
  -- one reader after another, by where the first ended
  pub then_to : ((a : A) (e : ℕ) → m s at ≡ read a e → read_to (f a s e) ≡ n e) → read_to ((m >>= f) s at) ≡ and_then (read_to (m s at)) n
  unfolding ◌>>=◌ next read_to
  then_to h = go (m s at) refl
    where
      go : (r : Read A) → m s at ≡ r → read_to (next r (λ a e. f a s e)) ≡ and_then (read_to r) n
      go (read a e) q = h a e q
      go (stop w p) q = refl

-- ── so many bytes ──

module _ (n : ℕ) (s : List ℕ) (at : ℕ) where
  pub skip_past : length s < at + n → read_to (skip n s at) ≡ Err (record { status = SHORT; at = length s })
  unfolding read_to
  skip_past h = ap read_to (skip_short s at n h)

  pub skip_within : at + n ≤ length s → read_to (skip n s at) ≡ Ok (at + n)
  unfolding read_to
  skip_within h = ap read_to (skip_next s at n h)

pub ruleset skipping = (skip_past, skip_within)

-- ── a count, and so many of a kind ──

module _ {A : Type 0} (m : Reader A) (s : List ℕ) where
  pub counted_short : (at : ℕ) → length s ≤ at → read_to (counted m s at) ≡ Err (record { status = SHORT; at = length s })
  unfolding counted ◌>>=◌ next read_to
  counted_short at h = rw (byte_short s at h)

  -- none is read yet
  pub counted_starts : (at : ℕ) → at < length s → read_to (counted m s at) ≡ read_to (many (get_or s at 0) m s (at + 1))
  unfolding counted ◌>>=◌ next
  counted_starts at h = rw (byte_next s at h)

  -- `many` with n - i to go
  pub many_done : (n i at : ℕ) → n ≤ i → read_to (many (n - i) m s at) ≡ Ok at
  unfolding many give read_to
  many_done n i at h = let e : n - i ≡ 0 = omega arith in rw e refl

  pub many_turn : (n i at : ℕ) → i < n → read_to (many (n - i) m s at) ≡ and_then (read_to (m s at)) (λ e. read_to (many (n - (i + 1)) m s e))
  unfolding many
  many_turn n i at h =
      let less : n - i ≡ suc (n - (i + 1)) = omega arith in
      rw less (then_to m _ _ s at (λ a e _. (alike_map (many (n - (i + 1)) m) _).alike s e))

pub ruleset counting = (counted_short, counted_starts, many_done, many_turn)
