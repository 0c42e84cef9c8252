-- A step beside its stack effect. `WithinEffect I r m`: the step moves as many types as the effect says where the effect is found, some
-- numbers of types where it is refused; a step that goes through has an effect; and the effect is refused only as a look-up in a table is.
use Rattle.std.specs.Prelude.{◌≡◌, ℕ, ◌+◌}
use Rattle.std.proofs.Math.Path.{refl}
use Rattle.std.proofs.Common.{arith}
use Rattle.definitions.specs.Result.{Result, ok, err, ◌>>?◌}
use Rattle.definitions.specs.SignatureToken.{SignatureToken}
use Rattle.definitions.specs.Machine.{Step, ◌>>=◌, look, Stack, Outcome, got, refused, run}
use Rattle.definitions.specs.StackUsage.{Effect, ◌⇒◌}
use Rattle.theorems.specs.All.{All}
use Rattle.theorems.specs.Lookups.{Tabled, LooksUp, tabled, ok_same, never_ok, only_ok, only_err}
use Rattle.theorems.specs.Programs.{After, Sound, refusing}

-- a program that is not refused
abbrev pub Goes : {A : Type 0} → Outcome A → Type 0
Goes (got a s) = Unit {0}
Goes (refused w) = ⊥

pub record WithinEffect (I : SignatureToken → Type 0) (r : Result Effect) (m : Step) : Type 0 where
  pub effect : Effect
  pub agrees : (e : Effect) → r ≡ ok e → e ≡ effect
  pub sound : Sound I (Unit {0}) effect.pops effect.pushes m
  pub found : (area : ℕ) (s : Stack) → All I s → Goes (run area m s) → r ≡ ok effect
  pub refuses : Tabled r

module _ {I : SignatureToken → Type 0} where
  -- a step that goes through does not move both p and q, and p' and q', unless these come to the same
  moves_once : {P : Type 0} {p q p' q' : ℕ} {m : Step} → Sound I (Unit {0}) p q m → Sound I (Unit {0}) p' q' m → (p + q' ≡ p' + q → ⊥) →
      (area : ℕ) (s : Stack) → All I s → Goes (run area m s) → P
  moves_once {P} {p} {q} {p'} {q'} {m} h h' apart area s i g = go (run area m s) (h.runs area s i) (h'.runs area s i) g
    where
      go : (o : Outcome (Unit {0})) → After I s p q o → After I s p' q' o → Goes o → P
      go (got a s') k k' g = absurd (apart (omega (arith, k.1, k'.1)))
      go (refused w) k k' g = absurd g

  -- an effect that is known from the instruction alone
  pub fixed : {p q : ℕ} {m : Step} → Sound I (Unit {0}) p q m → WithinEffect I (p ⇒ q) m
  fixed h = record { effect = _; agrees = λ e k. ok_same k refl; sound = h; found = λ area s i g. refl; refuses = only_ok }

  -- a step that is refused whatever it would have moved
  anyhow : (r : Result Effect) {m : Step} → Tabled r → ((p q : ℕ) → Sound I (Unit {0}) p q m) → WithinEffect I r m
  anyhow (ok e) t h = record { effect = e; agrees = λ e' k. ok_same k refl; sound = h _ _; found = λ area s i g. refl; refuses = t }
  anyhow (err w) t h = record {
    effect = record { pops = 0; pushes = 0 };
    agrees = λ e' k. never_ok k;
    sound = h _ _;
    found = moves_once (h 0 0) (h 0 1) (λ e. omega arith);
    refuses = t;
  }

  -- a look-up that the effect and the step share
  pub shared : {A : Type 0} {r : Result A} {e : A → Result Effect} {f : A → Step} →
      Tabled r → ((a : A) → r ≡ ok a → WithinEffect I (e a) (f a)) → WithinEffect I (r >>? e) (look r >>= f)
  unfolding ◌>>?◌ ◌>>=◌ look
  shared {A} {r} {e} {f} t h = go r refl
    where
      go : (r' : Result A) → r ≡ r' → WithinEffect I (r' >>? e) (look r' >>= f)
      go (ok a) k = h a k
      go (err w) k = anyhow (err w) (only_err (t.refuses w k)) λ p q. refusing w ((tabled t).refuses w k)

  -- a look-up of the step's alone
  pub apart : {A : Type 0} {r : Result Effect} {l : Result A} {f : A → Step} →
      Tabled r → LooksUp l → ((a : A) → l ≡ ok a → WithinEffect I r (f a)) → WithinEffect I r (look l >>= f)
  unfolding ◌>>=◌ look
  apart {A} {r} {l} {f} t h k = go l refl
    where
      go : (l' : Result A) → l ≡ l' → WithinEffect I r (look l' >>= f)
      go (ok a) x = k a x
      go (err w) x = anyhow r t λ p q. refusing w (h.refuses w x)

  -- an effect that one look-up counts: the step is sound for what was found, and for both d and d' where nothing was, so that it is refused
  pub chosen : {A : Type 0} {r : Result A} → Tabled r → (d d' : A) (e : A → Effect) {m : Step} → ((e d).pops + (e d').pushes ≡ (e d').pops + (e d).pushes → ⊥) →
      ((a : A) → ((b : A) → r ≡ ok b → b ≡ a) → Sound I (Unit {0}) (e a).pops (e a).pushes m) → WithinEffect I (r >>? λ a. ok (e a)) m
  unfolding ◌>>?◌
  chosen {A} {r} t d d' e {m} apart h = go r refl
    where
      go : (r' : Result A) → r ≡ r' → WithinEffect I (r' >>? λ a. ok (e a)) m
      go (ok a) x = fixed (h a λ b y. ok_same y x)
      go (err w) x = record {
        effect = e d;
        agrees = λ e' y. never_ok y;
        sound = h d λ b y. never_ok (rw x at y);
        found = moves_once (h d λ b y. never_ok (rw x at y)) (h d' λ b y. never_ok (rw x at y)) apart;
        refuses = only_err (t.refuses w x);
      }
