-- What a step's contract says, and the laws that the proof of a step is made of: one for each thing that a program does, each from what
-- is left of the program to the whole of it. Throughout, a and w are the area and the stack's weight before, b and r the area and the
-- answer after.
use Rattle.std.proofs.Math.Path.{◌≡◌, ap}
use Rattle.std.specs.Prelude.{refl, Bool, ℕ, ◌+◌, ◌≤◌, ◌<◌}
use Rattle.std.proofs.Common.{◌∙◌}
use mathlib.Core.List.{List, [], ◌∷◌}
use Rattle.std.proofs.Math.Bool.{true, false}
use native.Mathlib.Omega.{arith}
use Rattle.std.proofs.Math.ListN.{length}
use Rattle.std.proofs.Math.Dec.{leb}
use borrow.Author.Tests.{le-leb, lt-leb}
use Rattle.status.specs.declared.StatusCode.{StatusCode}
use Rattle.status.specs.declared.StatusCode.TheVariants.{EMPTY_STACK, NO_ROOM}
use Rattle.definitions.specs.Result.{Result, ok, err}
use Rattle.definitions.specs.SignatureToken.{SignatureToken, encode}
use Rattle.definitions.specs.Places.{At}
use Rattle.definitions.specs.Machine.{Program, Step, ◌>>=◌, ret, refuse, take, put, done, pop, look, check, push, Stack, weight, Outcome, got, refused, run}
use Rattle.theorems.specs.Bytes.{one_type}
use Rattle.type_stack.specs.Held.{Holds, Stacked, Here, stack_bytes, popped, pushed, entered}
use Rattle.type_stack.specs.Tops.{TopOf, top_of, TopTwoOf, top_two_of, Topped}
use Rattle.type_stack.specs.declared.Entry.{Entry}
use Rattle.type_stack.specs.Answers.{Stepped, same_ok, same_err, start_is, len_is}
use Rattle.std.specs.Prelude.{Ok, Err}

-- the answer r and the area b afterwards, beside what the program does; a refusal leaves the whole area as it was
unfoldable pub Agrees : List ℕ → List ℕ → Stepped → Outcome (Unit {0}) → Type 0
Agrees a b (Ok w) (got x s) = Holds b w s
Agrees a b (Ok w) (refused y) = ⊥
Agrees a b (Err z) (got x s) = ⊥
Agrees a b (Err z) (refused y) = (z ≡ y) × (b ≡ a)

-- the contract of a step: whatever stack the first w bytes of a held
pub record StepsTo (program : Step) (a : List ℕ) (w : ℕ) (b : List ℕ) (r : Stepped) : Type 0 where
  pub agrees : (s : Stack) → Holds a w s → Agrees a b r (run (length a) program s)

-- ── looks and checks ──

module _ {a b : List ℕ} {w : ℕ} {r : Stepped} where
  pub look_then : {A : Type 0} {g : Result A} {v : A} (f : A → Step) → g ≡ ok v → StepsTo (f v) a w b r → StepsTo (look g >>= f) a w b r
  unfolding ◌>>=◌ look
  look_then f e k = rw e k

  pub check_then : {g : Bool} (y : StatusCode) (f : Unit {0} → Step) → g ≡ true → StepsTo (f tt) a w b r → StepsTo (check g y >>= f) a w b r
  unfolding ◌>>=◌ check
  check_then y f e k = rw e k

module _ {a : List ℕ} {w : ℕ} where
  pub look_bad : {A : Type 0} {g : Result A} {y : StatusCode} (f : A → Step) → g ≡ err y → StepsTo (look g >>= f) a w a (Err y)
  unfolding run ◌>>=◌ look Agrees
  look_bad f e = rw e (record { agrees = λ s h. (refl, refl) })

  pub check_bad : {g : Bool} {y : StatusCode} (f : Unit {0} → Step) → g ≡ false → StepsTo (check g y >>= f) a w a (Err y)
  unfolding run ◌>>=◌ check Agrees
  check_bad f e = rw e (record { agrees = λ s h. (refl, refl) })

  -- a check that ends the program
  pub check_last : {g : Bool} (y : StatusCode) → g ≡ true → StepsTo (check g y) a w a (Ok w)
  unfolding run check Agrees
  check_last y e = rw e (record { agrees = λ s h. h })

  pub check_last_bad : {g : Bool} {y : StatusCode} → g ≡ false → StepsTo (check g y) a w a (Err y)
  unfolding run check Agrees
  check_last_bad e = rw e (record { agrees = λ s h. (refl, refl) })

  pub done_here : StepsTo done a w a (Ok w)
  unfolding run done Agrees
  done_here = record { agrees = λ s h. h }

-- ── pops ──

-- a program that begins with a pop
pub data IsPop : Step → Type 0 where
  takes : (f : SignatureToken → Step) → IsPop (pop >>= f)

pops_nothing : {p : Step} (n : ℕ) → IsPop p → run n p [] ≡ refused EMPTY_STACK
unfolding run ◌>>=◌ pop
pops_nothing n (takes f) = refl

module _ {a : List ℕ} {w : ℕ} where
  pub pop_none : {v : StatusCode} → TopOf a w (Err v) → (f : SignatureToken → Step) → StepsTo (pop >>= f) a w a (Err v)
  unfolding run ◌>>=◌ pop Agrees top_of
  pop_none {v} p f = record { agrees = go }
    where
      go : (s : Stack) → Holds a w s → Agrees a a (Err v) (run (length a) (pop >>= f) s)
      go [] h = (same_err (p.is [] h), refl)
      go (t ∷ s) h = let z : ◌≡◌ {A = ℕ} 0 1 = cc (p.is (t ∷ s) h) in absurd (omega arith)

  pub pop_then :
      {f : SignatureToken → Step} {x : Entry} {b : List ℕ} {r : Stepped} → TopOf a w (Ok x) →
      ((t : SignatureToken) → Here a x.start x.len t → StepsTo (f t) a x.start b r) → StepsTo (pop >>= f) a w b r
  unfolding run ◌>>=◌ pop top_of
  pop_then {f} {x} {b} {r} p k = record { agrees = go }
    where
      go : (s : Stack) → Holds a w s → Agrees a b r (run (length a) (pop >>= f) s)
      go [] h = let z : ◌≡◌ {A = ℕ} 0 1 = cc (p.is [] h) in absurd (omega arith)
      go (t ∷ s) h =
          let o = popped h in
          let n = same_ok (p.is (t ∷ s) h) in
          (k t (record { at = rw (start_is n) o.here; long = len_is n })).agrees s (rw (start_is n) o.below)

  pub two_refused :
      {v : StatusCode} → TopTwoOf a w (Err v) → (g : SignatureToken → Step) → ((t : SignatureToken) → IsPop (g t)) → StepsTo (pop >>= g) a w a (Err v)
  unfolding run ◌>>=◌ pop Agrees top_two_of
  two_refused {v} p g k = record { agrees = go }
    where
      go : (s : Stack) → Holds a w s → Agrees a a (Err v) (run (length a) (pop >>= g) s)
      go [] h = (same_err (p.is [] h), refl)
      go (t ∷ []) h = rw (pops_nothing (length a) (k t)) (same_err (p.is (t ∷ []) h), refl)
      go (t ∷ u ∷ s) h = let z : ◌≡◌ {A = ℕ} 0 1 = cc (p.is (t ∷ u ∷ s) h) in absurd (omega arith)

  pub two_none : {v : StatusCode} → TopTwoOf a w (Err v) → (f : SignatureToken → SignatureToken → Step) → StepsTo (pop >>= (λ t. pop >>= f t)) a w a (Err v)
  two_none p f = two_refused p (λ t. pop >>= f t) (λ t. takes (f t))

  pub two_then :
      {f : SignatureToken → SignatureToken → Step} {x y : Entry} {b : List ℕ} {r : Stepped} → TopTwoOf a w (Ok (x, y)) →
      ((t u : SignatureToken) → Here a x.start x.len t → Here a y.start y.len u → StepsTo (f t u) a y.start b r) → StepsTo (pop >>= (λ t. pop >>= f t)) a w b r
  unfolding run ◌>>=◌ pop top_two_of
  two_then {f} {x} {y} {b} {r} p k = record { agrees = go }
    where
      go : (s : Stack) → Holds a w s → Agrees a b r (run (length a) (pop >>= (λ t. pop >>= f t)) s)
      go [] h = let z : ◌≡◌ {A = ℕ} 0 1 = cc (p.is [] h) in absurd (omega arith)
      go (t ∷ []) h = let z : ◌≡◌ {A = ℕ} 0 1 = cc (p.is (t ∷ []) h) in absurd (omega arith)
      go (t ∷ u ∷ s) h =
          let o = popped h in
          let n = popped o.below in
          let e = same_ok (p.is (t ∷ u ∷ s) h) in
          let d = ap (λ (q : Entry × Entry). q.0) e in
          let g = ap (λ (q : Entry × Entry). q.1) e in
          (k t u (record { at = rw (start_is d) o.here; long = len_is d }) (record { at = rw (start_is g) n.here; long = len_is g })).agrees s
          (rw (start_is g) n.below)

-- what a step answers that finds no operand
pub ruleset pops = (two_refused, takes, pop_none)

-- ── pushes ──

module _ {a : List ℕ} {w : ℕ} (t : SignatureToken) where
  pub push_fits : w + (length (encode t) + 2) ≤ length a → StepsTo (push t) a w (entered a w (encode t)) (Ok (w + (length (encode t) + 2)))
  unfolding run push Agrees weight
  push_fits f = record { agrees = go }
    where
      go : (s : Stack) → Holds a w s → Agrees a (entered a w (encode t)) (Ok (w + (length (encode t) + 2))) (run (length a) (push t) s)
      go s h =
          let e : leb (weight s + (length (encode t) + 2)) (length a) ≡ true = le-leb (weight s + (length (encode t) + 2)) (length a) (let z = h.weighs in omega arith) in
          rw (e, run) (pushed h t f)

  pub push_full : length a < w + (length (encode t) + 2) → StepsTo (push t) a w a (Err NO_ROOM)
  unfolding run push Agrees weight
  push_full f = record { agrees = go }
    where
      go : (s : Stack) → Holds a w s → Agrees a a (Err NO_ROOM) (run (length a) (push t) s)
      go s h =
          let e : leb (weight s + (length (encode t) + 2)) (length a) ≡ false = lt-leb (weight s + (length (encode t) + 2)) (length a) (let z = h.weighs in omega arith) in
          rw (e, run) (refl, refl)

  -- the push of a type onto what is below it, where it already stands
  pub push_stands : {v l : ℕ} → Stacked a v → Topped a v w l → At a w (encode t) → StepsTo (push t) a w a (Ok v)
  unfolding run push Agrees weight stack_bytes
  push_stands {v} k o z = record { agrees = go }
    where
      go : (s : Stack) → Holds a w s → Agrees a a (Ok v) (run (length a) (push t) s)
      go s h =
          let y : o.type ≡ t = one_type o.type t o.here.at z in
          let m : v ≡ weight s + (length (encode t) + 2) =
          let i = h.weighs in
          let j = o.heavy in
          let n = o.here.long in
          let x = ap (λ (u : SignatureToken). length (encode u)) y in
          omega arith in
          let f = k.holds.fits in
          let e : leb (weight s + (length (encode t) + 2)) (length a) ≡ true = le-leb (weight s + (length (encode t) + 2)) (length a) (omega arith) in
          rw (e, run) (record { bytes = o.bytes ∙ rw (y, h.bytes); weighs = m; fits = f })

-- ── one program after another ──

-- go on with a value and a stack
unfoldable pub on_got : {A B : Type 0} → Outcome A → (A → Stack → Outcome B) → Outcome B
on_got (got a s) k = k a s
on_got (refused y) k = refused y

pub run_bind : {A B : Type 0} (n : ℕ) (p : Program A) (f : A → Program B) (s : Stack) → run n (p >>= f) s ≡ on_got (run n p s) (λ a s. run n (f a) s)
unfolding run ◌>>=◌ on_got
run_bind n (ret a) f s = refl
run_bind n (refuse y) f s = refl
run_bind n (take k) f [] = refl
run_bind n (take k) f (t ∷ s) = run_bind n (k t) f s
run_bind n (put t m) f s = go (leb (weight (t ∷ s)) n) (run_bind n m f (t ∷ s))
  where
    go :
        (b : Bool) → run n (m >>= f) (t ∷ s) ≡ on_got (run n m (t ∷ s)) (λ a s. run n (f a) s) →
        elim b [ true ↦ run n (m >>= f) (t ∷ s) | false ↦ refused NO_ROOM ]
        ≡ on_got (elim b [ true ↦ run n m (t ∷ s) | false ↦ refused NO_ROOM ]) (λ a s. run n (f a) s)
    go true e = e
    go false e = refl

-- a program within a program
pub bind_assoc : {A B C : Type 0} (p : Program A) (f : A → Program B) (g : B → Program C) → (p >>= f) >>= g ≡ p >>= (λ a. f a >>= g)
unfolding ◌>>=◌
bind_assoc (ret a) f g = refl
bind_assoc (refuse y) f g = refl
bind_assoc (take k) f g = ap take (λ i t. bind_assoc (k t) f g i)
bind_assoc (put t m) f g = ap (put t) (bind_assoc m f g)

pub nested :
    {A B : Type 0} (p : Program A) (f : A → Program B) (g : B → Step) {a b : List ℕ} {w : ℕ} {r : Stepped} →
    StepsTo (p >>= (λ x. f x >>= g)) a w b r → StepsTo ((p >>= f) >>= g) a w b r
nested p f g h = rw (bind_assoc p f g) h

-- a step that a call has done, and that wrote nothing: so a refusal of what follows leaves the area as it was
module _ {p : Step} {a : List ℕ} {w : ℕ} {q : Stepped} (x : StepsTo p a w a q) where
  pub and_then : (f : Unit {0} → Step) {b : List ℕ} {v : ℕ} {r : Stepped} → q ≡ Ok v → StepsTo (f tt) a v b r → StepsTo (p >>= f) a w b r
  unfolding Agrees on_got
  and_then f {b} {v} {r} e y = record { agrees = λ s h. rw (run_bind (length a) p f s) (go (run (length a) p s) (rw e at (x.agrees s h))) }
    where
      go : (o : Outcome (Unit {0})) → Agrees a a (Ok v) o → Agrees a b r (on_got o (λ u s. run (length a) (f u) s))
      go (got u s) h = y.agrees s h
      go (refused z) h = absurd h

  pub and_bad : (f : Unit {0} → Step) {z : StatusCode} → q ≡ Err z → StepsTo (p >>= f) a w a (Err z)
  unfolding Agrees on_got
  and_bad f {z} e = record { agrees = λ s h. rw (run_bind (length a) p f s) (go (run (length a) p s) (rw e at (x.agrees s h))) }
    where
      go : (o : Outcome (Unit {0})) → Agrees a a (Err z) o → Agrees a a (Err z) (on_got o (λ u s. run (length a) (f u) s))
      go (got u s) h = absurd h
      go (refused y) h = h

-- after a step the area holds a stack again
pub and_stacked :
    {p : Step} {a b : List ℕ} {w v : ℕ} {q : Stepped} → StepsTo p a w b q → Stacked a w → q ≡ Ok v → length b ≡ length a → Stacked b v
unfolding Agrees
and_stacked {p} {a} {b} {w} {v} x k i e = go (run (length a) p k.stack) (rw i at (x.agrees k.stack k.holds))
  where
    go : (o : Outcome (Unit {0})) → Agrees a b (Ok v) o → Stacked b v
    go (got u s) h = record { stack = s; holds = h; small = let z = k.small in omega arith }
    go (refused z) h = absurd h
