-- How the program's answers stand for those of the definitions: both are a value or the status of a refusal, and the value has its form in the
-- program.
use Rattle.std.specs.Prelude.{◌≡◌, refl, Result as Answer, Ok, Err, IsErrAnd}
use Rattle.std.proofs.Common.{ap, ◌∙◌}
use Rattle.std.proofs.lemmas.Result.{err_from_is_err_and}
use Rattle.status.specs.declared.StatusCode.{StatusCode}
use Rattle.definitions.specs.Result.{Result, ok, err}

-- `PartialVMResult` of crate status
abbrev pub PartialVMResult : Type 0 → Type 0
PartialVMResult A = Answer A StatusCode

-- what the program answers for a result of the definitions
abbrev pub answer : {A B : Type 0} → (A → B) → Result A → PartialVMResult B
answer form (ok value) = Ok (form value)
answer form (err status) = Err status

-- what an answer of the program says, as a result of the definitions
abbrev pub result_of : {A B : Type 0} → (B → A) → PartialVMResult B → Result A
result_of says (Ok value) = ok (says value)
result_of says (Err status) = err status

-- ── the laws ──

module _ {A B : Type 0} (form : A → B) where
  pub answer_found : (r : Result A) {b : B} → Ok b ≡ answer form r → (a : A) × (r ≡ ok a) × (b ≡ form a)
  answer_found (ok a) e = (a, refl, cc)
  answer_found (err status) e = absurd cc

  pub answer_refused : (r : Result A) {status : StatusCode} → Err status ≡ answer form r → r ≡ err status
  answer_refused (ok a) e = absurd cc
  answer_refused (err why) e = cc

  -- an answer says what it was made of
  pub answer_back : (says : B → A) → ((a : A) → says (form a) ≡ a) → (r : Result A) → result_of says (answer form r) ≡ r
  answer_back says same (ok a) = ap ok (same a)
  answer_back says same (err status) = refl

-- what a `?` hands on is the refusal that it met
pub handed_on : {A : Type 0} (r : PartialVMResult A) {status : StatusCode} → IsErrAnd r (λ y. y ≡ status) → r ≡ Err status
handed_on r e = let p = err_from_is_err_and r e in p.1 ∙ ap Err p.2
