-- What a program does to the stack, by one predicate and one law for each thing that a program does. `Sound I A p q m`: on a stack whose
-- every type has I, the program takes p types off and puts q on, and leaves such a stack; or it is refused with a status that a step may
-- have, and with EMPTY_STACK only where fewer than p stand there.
-- What takes types off is in Programs.antt of proofs/.
use Rattle.std.specs.Prelude.{Bool, ◌≡◌, T, leb, length}
use Rattle.std.proofs.Math.Bool.{true, false}
use mathlib.Core.List.{List, [], ◌∷◌, Memᴰ}
use Rattle.std.proofs.Math.Path.{refl}
use Prim.Native.Nat.{ℕ, zero, suc, ◌+◌, ◌≤◌, ◌<◌, min}
use native.Mathlib.Omega.{arith}
use Rattle.status.specs.declared.StatusCode.{StatusCode}
use Rattle.status.specs.declared.StatusCode.TheVariants.{NO_ROOM}
use Rattle.status.specs.Verdict.{status_number}
use Rattle.definitions.specs.Result.{Result, ok, err}
use Rattle.definitions.specs.SignatureToken.{SignatureToken}
use Rattle.definitions.specs.Machine.{Program, ret, refuse, take, put, ◌>>=◌, done, push, look, check, push_one, push_each, push_n, Stack, Outcome, got, refused, weight, run}
use Rattle.theorems.specs.All.{All, more}
use Rattle.theorems.specs.Numbers.{look_refusal, step_refusal, look_step, look_not_empty}
use Rattle.theorems.specs.Lookups.{LooksUp}

-- ── the statement ──

-- what an outcome from the stack s says, if p types were to go and then q to come
abbrev pub After : (SignatureToken → Type 0) → {A : Type 0} → Stack → ℕ → ℕ → Outcome A → Type 0
After I s p q (got a s') = (p ≤ length s) × (length s' + p ≡ length s + q) × All I s'
After I s p q (refused w) = (status_number w ≡ 10 → length s < p) × T (step_refusal (status_number w))

pub record Sound (I : SignatureToken → Type 0) (A : Type 0) (p q : ℕ) (m : Program A) : Type 0 where
  pub runs : (area : ℕ) (s : Stack) → All I s → After I s p q (run area m s)

-- ── running one program after another ──

abbrev pub bind : {A B : Type 0} → Outcome A → (A → Stack → Outcome B) → Outcome B
bind (got a s) f = f a s
bind (refused w) f = refused w

pub run_bind : {A B : Type 0} (area : ℕ) (m : Program A) (f : A → Program B) (s : Stack) → run area (m >>= f) s ≡ bind (run area m s) (λ a s'. run area (f a) s')
unfolding run ◌>>=◌
run_bind area (ret a) f s = refl
run_bind area (refuse w) f s = refl
run_bind area (take k) f [] = refl
run_bind area (take k) f (t ∷ s) = run_bind area (k t) f s
run_bind {A} {B} area (put t m) f s = go (leb (weight (t ∷ s)) area) (run_bind area m f (t ∷ s))
  where
    go : (b : Bool) → run area (m >>= f) (t ∷ s) ≡ bind (run area m (t ∷ s)) (λ a s'. run area (f a) s') →
        elim b as (λ _. Outcome B) [ true ↦ run area (m >>= f) (t ∷ s) | false ↦ refused NO_ROOM ] ≡
        bind (elim b as (λ _. Outcome A) [ true ↦ run area m (t ∷ s) | false ↦ refused NO_ROOM ]) (λ a s'. run area (f a) s')
    go true e = e
    go false e = refl

module _ {I : SignatureToken → Type 0} where
  -- the counts may be written another way
  pub counted : {A : Type 0} {p p' q q' : ℕ} {m : Program A} → p ≡ p' → q ≡ q' → Sound I A p q m → Sound I A p' q' m
  counted e e' h = rw (← e, ← e') h

  -- a look-up's refusal is one of a step, whatever the step would have moved
  pub refusing : {A : Type 0} {p q : ℕ} (w : StatusCode) → T (look_refusal (status_number w)) → Sound I A p q (refuse w)
  unfolding run
  refusing w t = record { runs = λ area s i. (λ e. absurd (look_not_empty (status_number w) t e), look_step (status_number w) t) }

  module _ {A B : Type 0} where
    -- one program after another, where the first puts nothing on or the second takes nothing off
    in_turn : {p q p' q' : ℕ} {m : Program A} {f : A → Program B} →
        min q p' ≡ 0 → Sound I A p q m → ((a : A) → Sound I B p' q' (f a)) → Sound I B (p + p') (q + q') (m >>= f)
    in_turn {p} {q} {p'} {q'} {m} {f} z hm hf = record { runs = λ area s i. rw (run_bind area m f s) (go area s (run area m s) (hm.runs area s i)) }
      where
        on : (s s' : Stack) (o : Outcome B) → p ≤ length s → length s' + p ≡ length s + q → After I s' p' q' o → After I s (p + p') (q + q') o
        on s s' (got b s'') l e k = (omega arith, omega arith, k.2)
        on s s' (refused w) l e k = (λ x. omega (arith, k.0 x), k.1)

        go : (area : ℕ) (s : Stack) (o : Outcome A) → After I s p q o → After I s (p + p') (q + q') (bind o (λ a s'. run area (f a) s'))
        go area s (got a s') h = on s s' (run area (f a) s') h.0 h.1 ((hf a).runs area s' h.2)
        go area s (refused w) h = (λ x. omega (arith, h.0 x), h.1)

    -- one that only takes off, and what follows it
    pub then : {p p' q : ℕ} {m : Program A} {f : A → Program B} → Sound I A p 0 m → ((a : A) → Sound I B p' q (f a)) → Sound I B (p + p') q (m >>= f)
    then hm hf = counted refl (omega arith) (in_turn (omega arith) hm hf)

    -- two that only put on
    pub then_put : {q q' : ℕ} {m : Program A} {f : A → Program B} → Sound I A 0 q m → ((a : A) → Sound I B 0 q' (f a)) → Sound I B 0 (q + q') (m >>= f)
    then_put hm hf = in_turn (omega arith) hm hf

    -- a look-up; what was found is kept
    pub looking : {p q : ℕ} {r : Result A} {f : A → Program B} → LooksUp r → ((a : A) → r ≡ ok a → Sound I B p q (f a)) → Sound I B p q (look r >>= f)
    unfolding ◌>>=◌ look
    looking {p} {q} {r} {f} h k = go r refl
      where
        go : (r' : Result A) → r ≡ r' → Sound I B p q (look r' >>= f)
        go (ok a) e = k a e
        go (err w) e = refusing w (h.refuses w e)

  module _ {B : Type 0} where
    pub checking : {p q : ℕ} (b : Bool) (w : StatusCode) {f : Unit {0} → Program B} →
        T (look_refusal (status_number w)) → ((a : Unit {0}) → Sound I B p q (f a)) → Sound I B p q (check b w >>= f)
    unfolding ◌>>=◌ check
    checking true w t h = h tt
    checking false w t h = refusing w t

  pub nothing : Sound I (Unit {0}) 0 0 done
  unfolding run done
  nothing = record { runs = λ area s i. (omega arith, refl, i) }

  pub checked : (b : Bool) (w : StatusCode) → T (look_refusal (status_number w)) → Sound I (Unit {0}) 0 0 (check b w)
  unfolding check done
  checked true w t = nothing
  checked false w t = refusing w t

  pub pushing : (t : SignatureToken) → I t → Sound I (Unit {0}) 0 1 (push t)
  unfolding run push
  pushing t it = record { runs = λ area s i. go (leb (weight (t ∷ s)) area) s i }
    where
      go : (b : Bool) (s : Stack) → All I s → After I {A = Unit {0}} s 0 1 (elim b as (λ _. Outcome (Unit {0})) [ true ↦ got tt (t ∷ s) | false ↦ refused NO_ROOM ])
      go true s i = (omega arith, omega arith, more it i)
      go false s i = (λ x. omega arith, tt)

  -- ── the loops ──

  pub sound_push_each : (f : SignatureToken → Result SignatureToken) (ts : List SignatureToken) → ((a : SignatureToken) → LooksUp (f a)) →
      ((a b : SignatureToken) → Memᴰ a ts → f a ≡ ok b → I b) → Sound I (Unit {0}) 0 (length ts) (push_each f ts)
  unfolding push_each push_one
  sound_push_each f [] h k = nothing
  sound_push_each f (a ∷ ts) h k =
      counted refl (omega arith)
      (then_put (looking (h a) λ b e. pushing b (k a b (Memᴰ.head refl) e)) λ _. sound_push_each f ts h λ b c m. k b c (Memᴰ.tail m))

  pub sound_push_n : (n : ℕ) (t : SignatureToken) → I t → Sound I (Unit {0}) 0 n (push_n n t)
  unfolding push_n
  sound_push_n zero t i = nothing
  sound_push_n (suc n) t i = counted refl (omega arith) (then_put (pushing t i) λ _. sound_push_n n t i)
