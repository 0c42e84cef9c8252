-- Programs that take types off the stack: `Sound` of a pop, of a list of types that are popped and compared, and of n pops. On too low a
-- stack each is refused with EMPTY_STACK.
use Rattle.std.specs.Prelude.{T, length}
use mathlib.Core.List.{List, [], ◌∷◌}
use Rattle.std.proofs.Math.Path.{refl}
use Prim.Native.Nat.{ℕ, zero, suc}
use native.Mathlib.Omega.{arith}
use Rattle.status.specs.declared.StatusCode.{StatusCode}
use Rattle.status.specs.Verdict.{status_number}
use Rattle.definitions.specs.Result.{Result}
use Rattle.definitions.specs.SignatureToken.{SignatureToken}
use Rattle.definitions.specs.Machine.{Program, ◌>>=◌, pop, pop_one, pop_each, pop_n, Stack, Outcome, got, refused, run}
use Rattle.theorems.specs.All.{All, none, more}
use Rattle.theorems.specs.Numbers.{look_refusal}
use Rattle.theorems.specs.Lookups.{LooksUp}
use Rattle.theorems.specs.Programs.{After, Sound, then, looking, nothing, checked, counted}

module _ {I : SignatureToken → Type 0} where
  module _ {B : Type 0} where
    pub popping : {p q : ℕ} {f : SignatureToken → Program B} → ((t : SignatureToken) → I t → Sound I B p q (f t)) → Sound I B (suc p) q (pop >>= f)
    unfolding run ◌>>=◌ pop
    popping {p} {q} {f} h = record { runs = go }
      where
        on : (s : Stack) (t : SignatureToken) (o : Outcome B) → After I s p q o → After I (t ∷ s) (suc p) q o
        on s t (got b s') k = (omega arith, omega arith, k.2)
        on s t (refused w) k = (λ x. omega (arith, k.0 x), k.1)

        go : (area : ℕ) (s : Stack) → All I s → After I s (suc p) q (run area (pop >>= f) s)
        go area [] none = (λ x. omega arith, tt)
        go area (t ∷ s) (more i is) = on s t (run area (f t) s) ((h t i).runs area s is)

  -- ── the loops ──

  module _ (w : StatusCode) (t : T (look_refusal (status_number w))) (f : SignatureToken → Result SignatureToken) (h : (a : SignatureToken) → LooksUp (f a)) where
    sound_pop_one : (a : SignatureToken) → Sound I (Unit {0}) 1 0 (pop_one w f a)
    unfolding pop_one
    sound_pop_one a = popping λ b i. looking (h a) λ c e. checked _ _ t

    pub sound_pop_each : (ts : List SignatureToken) → Sound I (Unit {0}) (length ts) 0 (pop_each w f ts)
    unfolding pop_each
    sound_pop_each [] = nothing
    sound_pop_each (a ∷ ts) = counted (omega arith) refl (then (sound_pop_one a) λ _. sound_pop_each ts)

  pub sound_pop_n : (n : ℕ) → Sound I (Unit {0}) n 0 (pop_n n)
  unfolding pop_n
  sound_pop_n zero = nothing
  sound_pop_n (suc n) = popping λ t i. sound_pop_n n
