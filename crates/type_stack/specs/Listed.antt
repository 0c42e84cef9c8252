-- Pops and pushes of many types, one by one: the laws of `pop_each`, `push_each`, `pop_n` and `push_n`, each of its first type and of its end.
use Rattle.std.specs.Prelude.{◌≡◌, length}
use Rattle.std.proofs.Math.Path.{refl}
use mathlib.Core.List.{List, [], ◌∷◌}
use Prim.Native.Nat.{ℕ, zero, suc, ◌+◌, ◌*◌, ◌≤◌, ◌<◌}
use Rattle.std.proofs.Common.{arith}
use Rattle.std.proofs.Math.Decide.{dec_le}
use Rattle.std.proofs.Math.Nat.{suc-mul}
use Rattle.status.specs.declared.StatusCode.{StatusCode}
use Rattle.status.specs.declared.StatusCode.TheVariants.{NO_ROOM}
use Rattle.definitions.specs.Result.{Result, ok, err}
use Rattle.definitions.specs.SignatureToken.{SignatureToken, Signature, encode}
use Rattle.definitions.specs.Machine.{◌>>=◌, pop, look, push, pop_one, pop_each, push_one, push_each, pop_n, push_n, Stack, run}
use Rattle.type_stack.specs.Held.{Holds, popped}
use Rattle.type_stack.specs.Tops.{TopOf, top_of}
use Rattle.type_stack.specs.Stepping.{StepsTo, and_bad, pop_none}
use Rattle.type_stack.specs.Leading.{Leads, Weighs, Stuck, leads_step, weigh_push, stuck_push, stuck_on}
use Rattle.type_stack.specs.declared.Entry.{Entry}
use Rattle.type_stack.specs.Answers.{Stepped, same_ok, start_is}
use Rattle.std.specs.Prelude.{Ok, Err}

-- ── pop_each ──

module _ (y : StatusCode) (f : SignatureToken → Result SignatureToken) (t : SignatureToken) (ts : Signature) {a : List ℕ} {w : ℕ} {q : Stepped} (x : StepsTo (pop_one y f t) a w a q) where
  -- the first was popped and compared, which wrote nothing
  pub pop_each_law : {n v : ℕ} → n ≡ length a → q ≡ Ok v → Leads (Holds a w) (run n (pop_each y f (t ∷ ts))) (Holds a v) (run n (pop_each y f ts))
  unfolding pop_each
  pop_each_law i e = leads_step x e (λ _. pop_each y f ts) i

  pub pop_each_bad : {z : StatusCode} → q ≡ Err z → StepsTo (pop_each y f (t ∷ ts)) a w a (Err z)
  unfolding pop_each
  pop_each_bad e = and_bad x (λ _. pop_each y f ts) e

-- ── pop_n ──

module _ {a : List ℕ} {w : ℕ} (m : ℕ) where
  -- the first was popped; the rest does not depend on its type
  pub pop_n_law : (n : ℕ) {x : Entry} → TopOf a w (Ok x) → Leads (Holds a w) (run n (pop_n (suc m))) (Holds a x.start) (run n (pop_n m))
  unfolding run pop_n pop ◌>>=◌ top_of
  pop_n_law n {x} p = record { stack = λ s h. below s; holds = holds; goes = goes }
    where
      below : Stack → Stack
      below [] = []
      below (t ∷ s) = s

      holds : (s : Stack) → Holds a w s → Holds a x.start (below s)
      holds [] h = let z : ◌≡◌ {A = ℕ} 0 1 = cc (p.is [] h) in absurd (omega arith)
      holds (t ∷ s) h = rw (start_is (same_ok (p.is (t ∷ s) h))) (popped h).below

      goes : (s : Stack) → Holds a w s → run n (pop >>= (λ t. pop_n m)) s ≡ run n (pop_n m) (below s)
      goes [] h = let z : ◌≡◌ {A = ℕ} 0 1 = cc (p.is [] h) in absurd (omega arith)
      goes (t ∷ s) h = refl

  pub pop_n_none : {v : StatusCode} → TopOf a w (Err v) → StepsTo (pop_n (suc m)) a w a (Err v)
  unfolding pop_n
  pop_n_none p = pop_none p (λ t. pop_n m)

-- ── push_each ──

module _ (f : SignatureToken → Result SignatureToken) (t : SignatureToken) (ts : Signature) where
  -- with its look-up done, what is left is a push
  first_push : {u : SignatureToken} → f t ≡ ok u → push_each f (t ∷ ts) ≡ push u >>= (λ _. push_each f ts)
  unfolding push_each push_one look ◌>>=◌ push
  first_push e = rw e

  -- the first was pushed
  pub write_each :
      {u : SignatureToken} {a b : List ℕ} {w : ℕ} {q : Stepped} {n v : ℕ} → f t ≡ ok u → StepsTo (push u) a w b q → n ≡ length a → q ≡ Ok v →
      Leads (Holds a w) (run n (push_each f (t ∷ ts))) (Holds b v) (run n (push_each f ts))
  write_each e x i j = rw (first_push e) (leads_step x j (λ _. push_each f ts) i)

  module _ {n w : ℕ} where
    -- the first would be pushed, or is refused
    pub weigh_each :
        {u : SignatureToken} → f t ≡ ok u → w + (length (encode u) + 2) ≤ n →
        Leads (Weighs w) (run n (push_each f (t ∷ ts))) (Weighs (w + (length (encode u) + 2))) (run n (push_each f ts))
    weigh_each {u} e l = rw (first_push e) (weigh_push u (λ _. push_each f ts) l)

    pub stuck_each : {u : SignatureToken} → f t ≡ ok u → n < w + (length (encode u) + 2) → Stuck n w (push_each f (t ∷ ts)) NO_ROOM
    stuck_each {u} e l = rw (first_push e) (stuck_push u (λ _. push_each f ts) l)

    pub stuck_each_bad : {y : StatusCode} → f t ≡ err y → Stuck n w (push_each f (t ∷ ts)) y
    unfolding push_each push_one look ◌>>=◌ run
    stuck_each_bad e = rw e (record { is = λ s h. refl })

-- ── push_n ──

module _ (t : SignatureToken) where
  -- the first was pushed
  pub write_n :
      (m : ℕ) {a b : List ℕ} {w : ℕ} {q : Stepped} {n v : ℕ} → StepsTo (push t) a w b q → n ≡ length a → q ≡ Ok v →
      Leads (Holds a w) (run n (push_n (suc m) t)) (Holds b v) (run n (push_n m t))
  unfolding push_n
  write_n m x i e = leads_step x e (λ _. push_n m t) i

  -- it is enough to weigh them all at once, however many they are
  pub stuck_n : (m : ℕ) {n w : ℕ} → w ≤ n → n < w + m * (length (encode t) + 2) → Stuck n w (push_n m t) NO_ROOM
  unfolding push_n
  stuck_n zero h l = absurd (omega arith)
  stuck_n (suc m) {n} {w} h l = go (dec_le (w + (length (encode t) + 2)) n) (λ k. stuck_n m k (omega (arith, suc-mul m (length (encode t) + 2))))
    where
      go :
          Dec (w + (length (encode t) + 2) ≤ n) → (w + (length (encode t) + 2) ≤ n → Stuck n (w + (length (encode t) + 2)) (push_n m t) NO_ROOM) →
          Stuck n w (push t >>= (λ _. push_n m t)) NO_ROOM
      go (yes k) rest = stuck_on (weigh_push t (λ _. push_n m t) k) (rest k)
      go (no k) rest = stuck_push t (λ _. push_n m t) (omega arith)
