-- Many steps one after another: what the invariant of a loop over pops, over pushes, over instructions or over blocks says. Where a step
-- may be refused after pushes, the pushes are weighed first and written only then; `Weighs` and `Stuck` are about the weighing.
use Rattle.std.specs.Prelude.{◌≡◌, refl, List, ◌∷◌, ℕ, ◌+◌, ◌≤◌, ◌<◌, length}
use Rattle.std.proofs.Math.Path.{ap}
use Rattle.std.proofs.Common.{◌∙◌, le-leb}
use native.Mathlib.Omega.{arith}
use Rattle.std.proofs.lemmas.Bool.{lt-leb}
use Rattle.status.specs.declared.StatusCode.{StatusCode}
use Rattle.status.specs.declared.StatusCode.TheVariants.{NO_ROOM}
use Rattle.definitions.specs.SignatureToken.{SignatureToken, encode}
use Rattle.definitions.specs.Machine.{Step, ◌>>=◌, done, push, Stack, weight, Outcome, got, refused, run}
use Rattle.type_stack.specs.Held.{Holds}
use Rattle.type_stack.specs.Stepping.{StepsTo, Agrees, on_got, run_bind}
use Rattle.type_stack.specs.Answers.{Stepped}
use Rattle.std.specs.Prelude.{Ok, Err}

-- from any stack of P, f goes on as g does from some stack of Q
pub record Leads {X : Type 0} (P : Stack → Type 0) (f : Stack → X) (Q : Stack → Type 0) (g : Stack → X) : Type 0 where
  pub stack : (s : Stack) → P s → Stack
  pub holds : (s : Stack) (h : P s) → Q (stack s h)
  pub goes : (s : Stack) (h : P s) → f s ≡ g (stack s h)

pub leads_here : {X : Type 0} {P : Stack → Type 0} {f : Stack → X} → Leads P f P f
leads_here = record { stack = λ s h. s; holds = λ s h. h; goes = λ s h. refl }

pub leads_on : {X : Type 0} {P Q R : Stack → Type 0} {f g k : Stack → X} → Leads P f Q g → Leads Q g R k → Leads P f R k
leads_on x y = record {
  stack = λ s h. y.stack (x.stack s h) (x.holds s h);
  holds = λ s h. y.holds (x.stack s h) (x.holds s h);
  goes = λ s h. x.goes s h ∙ y.goes (x.stack s h) (x.holds s h);
}

-- ── steps ──

-- the stack after a step
unfoldable pub after : Outcome (Unit {0}) → Stack → Stack
after (got x s') s = s'
after (refused y) s = s

module _ {p : Step} {a b : List ℕ} {w : ℕ} {q : Stepped} (x : StepsTo p a w b q) {v : ℕ} (e : q ≡ Ok v) where
  -- the step was not refused
  pub step_got : (s : Stack) → Holds a w s → (run (length a) p s ≡ got tt (after (run (length a) p s) s)) × Holds b v (after (run (length a) p s) s)
  unfolding Agrees after
  step_got s h = go (run (length a) p s) (rw e at (x.agrees s h))
    where
      go : (o : Outcome (Unit {0})) → Agrees a b (Ok v) o → (o ≡ got tt (after o s)) × Holds b v (after o s)
      go (got u s') k = (refl, k)
      go (refused y) k = absurd k

  -- a step that may have written
  pub leads_step : (k : Unit {0} → Step) {n : ℕ} → n ≡ length a → Leads (Holds a w) (run n (p >>= k)) (Holds b v) (run n (k tt))
  unfolding on_got
  leads_step k {n} i = record {
    stack = λ s h. after (run (length a) p s) s;
    holds = λ s h. (step_got s h).1;
    goes = λ s h. rw i (run_bind (length a) p k s ∙ ap (λ (o : Outcome (Unit {0})). on_got o (λ u s. run (length a) (k u) s)) (step_got s h).0);
  }

module _ {p : Step} {a : List ℕ} {w v : ℕ} where
  -- what was done on the way wrote nothing
  pub leads_then : {q : Step} {b : List ℕ} {r : Stepped} → Leads (Holds a w) (run (length a) p) (Holds a v) (run (length a) q) → StepsTo q a v b r → StepsTo p a w b r
  leads_then x y = record { agrees = λ s h. rw (x.goes s h) (y.agrees (x.stack s h) (x.holds s h)) }

  -- nothing is left to do
  pub leads_done : {q : Step} {b : List ℕ} → q ≡ done → Leads (Holds a w) (run (length a) p) (Holds b v) (run (length a) q) → StepsTo p a w b (Ok v)
  unfolding Agrees run done
  leads_done e x = record { agrees = λ s h. rw (x.goes s h, e) (x.holds s h) }

-- ── weighing ──

pub record Weighs (w : ℕ) (s : Stack) : Type 0 where
  pub is : w ≡ weight s

-- the program is refused, whatever stack of weight w it starts from
pub record Stuck (n w : ℕ) (p : Step) (y : StatusCode) : Type 0 where
  pub is : (s : Stack) → Weighs w s → run n p s ≡ refused y

-- what would be done on the way does not change that
pub stuck_on : {n w v : ℕ} {p q : Step} {y : StatusCode} → Leads (Weighs w) (run n p) (Weighs v) (run n q) → Stuck n v q y → Stuck n w p y
stuck_on x y = record { is = λ s h. x.goes s h ∙ y.is (x.stack s h) (x.holds s h) }

-- nothing was written
pub stuck_refused : {a : List ℕ} {w : ℕ} {p : Step} {y : StatusCode} → Stuck (length a) w p y → StepsTo p a w a (Err y)
unfolding Agrees
stuck_refused x = record { agrees = λ s h. rw (x.is s (record { is = h.weighs })) (refl, refl) }

module _ {w : ℕ} where
  module _ (t : SignatureToken) (k : Unit {0} → Step) {n : ℕ} where
    pub weigh_push : w + (length (encode t) + 2) ≤ n → Leads (Weighs w) (run n (push t >>= k)) (Weighs (w + (length (encode t) + 2))) (run n (k tt))
    unfolding run push weight ◌>>=◌
    weigh_push f = record {
      stack = λ s h. t ∷ s;
      holds = λ s h. record { is = let e = h.is in omega arith };
      goes = λ s h. rw (le-leb (weight s + (length (encode t) + 2)) n (let e = h.is in omega arith), run);
    }

    pub stuck_push : n < w + (length (encode t) + 2) → Stuck n w (push t >>= k) NO_ROOM
    unfolding run push weight ◌>>=◌
    stuck_push f = record { is = λ s h. rw (lt-leb (weight s + (length (encode t) + 2)) n (let e = h.is in omega arith), run) }
