-- What pops, steps and walks answer, as the words of their contracts.
use Rattle.std.specs.Prelude.{◌≡◌, ℕ, Result, Ok, Err}
use Rattle.std.specs.Result.{IsErrAnd}
use Rattle.std.proofs.Common.{ap, ◌∙◌}
use Rattle.std.proofs.lemmas.Result.{err_from_is_err_and}
use Rattle.status.specs.declared.StatusCode.{StatusCode}
use Rattle.type_stack.specs.declared.Entry.{Entry}
use Rattle.type_stack.specs.declared.Stopped.{Stopped}

-- of a step: the weight of the stack after it
abbrev pub Stepped : Type 0
Stepped = Result ℕ StatusCode

-- of a pop, and of two
abbrev pub Top : Type 0
Top = Result Entry StatusCode

abbrev pub TopTwo : Type 0
TopTwo = Result (Entry × Entry) StatusCode

-- of a walk
abbrev pub Walk : Type 0
Walk = Result ℕ Stopped

-- an entry of l bytes at x
abbrev pub entry_at : ℕ → ℕ → Entry
entry_at x l = record { start = x; len = l }

-- a walk that stops
abbrev pub stopped_at : StatusCode → ℕ → ℕ → Stopped
stopped_at y o v = record { status = y; offset = o; weight = v }

-- ── equal answers ──

-- one value at most was answered
pub same_ok : {A : Type 0} {x y : A} → ◌≡◌ {A = Result A StatusCode} (Ok x) (Ok y) → x ≡ y
same_ok e = cc

pub same_err : {A : Type 0} {x y : StatusCode} → ◌≡◌ {A = Result A StatusCode} (Err x) (Err y) → x ≡ y
same_err e = cc

module _ {e : Entry} {x l : ℕ} (i : e ≡ entry_at x l) where
  pub start_is : e.start ≡ x
  start_is = ap (λ (f : Entry). f.start) i

  pub len_is : e.len ≡ l
  len_is = ap (λ (f : Entry). f.len) i

-- what the exit of a `?` answers is the refusal that it met
pub exit_is : {A : Type 0} {r : Result A StatusCode} {v : StatusCode} → IsErrAnd r (λ y. y ≡ v) → r ≡ Err v
exit_is {A} {r} e = let p = err_from_is_err_and r e in p.1 ∙ ap Err p.2
