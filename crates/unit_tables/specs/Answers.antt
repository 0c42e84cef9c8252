-- How the answer of a look-up stands for a result of the definitions, whatever is looked up: the value by a relation or by a function, the refusal
-- as it is.
use Rattle.std.specs.Prelude.{◌≡◌, refl, Result, Ok, Err, IsErrAnd}
use Rattle.std.proofs.Common.{sym, ap, ◌∙◌}
use Rattle.status.specs.declared.StatusCode.{StatusCode}
use Rattle.definitions.specs.Result as defs
use Rattle.definitions.specs.Result.{ok, err, ◌>>?◌}

-- ── by a function ──

-- the result that an answer tells, where f makes the definitions' value of what was found
abbrev pub told : {A B : Type 0} → (B → A) → Result B StatusCode → defs.Result A
told f (Ok b) = ok (f b)
told f (Err v) = err v

-- where a `?` leaves a function, with the refusal v
pub told_exit : {A B : Type 0} (f : B → A) (r : Result B StatusCode) {v : StatusCode} {x : defs.Result A} → IsErrAnd r (λ e. e ≡ v) → err v ≡ x → told f r ≡ x
told_exit f (Ok b) h e = absurd h
told_exit f (Err v) h e = ap err h ∙ e

module _ {A B : Type 0} {x : defs.Result A} (k : A → defs.Result B) where
  -- a refusal stays
  pub refused : {v : StatusCode} → err v ≡ x → err v ≡ (x >>? k)
  unfolding ◌>>?◌
  refused e = rw (← e)

-- ── by a relation ──

-- R ties a value of the definitions to the one that was found
abbrev pub Stands : {A B : Type 0} → (A → B → Type 0) → defs.Result A → Result B StatusCode → Type 0
Stands R (ok a) (Ok b) = R a b
Stands R (ok a) (Err v) = ⊥
Stands R (err w) (Ok b) = ⊥
Stands R (err w) (Err v) = v ≡ w

-- r stands for x
pub record ResultIs {A B : Type 0} (R : A → B → Type 0) (x : defs.Result A) (r : Result B StatusCode) : Type 0 where
  pub is : Stands R x r

module _ {A B : Type 0} {R : A → B → Type 0} {x : defs.Result A} where
  -- the definitions' value, where one was found
  pub what_found : {b : B} → ResultIs R x (Ok b) → (a : A) × (x ≡ ok a) × R a b
  what_found {b} w = go x w.is
    where
      go : (y : defs.Result A) → Stands R y (Ok b) → (a : A) × (y ≡ ok a) × R a b
      go (ok a) h = (a, refl, h)
      go (err v) h = absurd h

  pub why_refused : {v : StatusCode} → ResultIs R x (Err v) → x ≡ err v
  why_refused {v} w = go x w.is
    where
      go : (y : defs.Result A) → Stands R y (Err v) → y ≡ err v
      go (ok a) h = absurd h
      go (err w) h = ap err (sym h)

-- ── one look-up after another ──

module _ {A B C D : Type 0} {R : A → B → Type 0} {S : C → D → Type 0} {x : defs.Result A} (k : A → defs.Result C) where
  -- the first was refused
  pub refused_first : {v : StatusCode} → ResultIs R x (Err v) → ResultIs S (x >>? k) (Err v)
  unfolding ◌>>?◌
  refused_first w = record { is = rw (why_refused w) refl }

  -- the first found b
  pub found_first : {b : B} {r : Result D StatusCode} → ResultIs R x (Ok b) → ((a : A) → R a b → ResultIs S (k a) r) → ResultIs S (x >>? k) r
  unfolding ◌>>?◌
  found_first {b} {r} w f = let (a, q, h) = what_found w in record { is = rw q ((f a h).is) }
