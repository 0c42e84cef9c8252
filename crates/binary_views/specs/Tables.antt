-- A record of a table, found by its index: the table's places and its records run in step, so the place that stands at an index is that
-- of the record with that index, and an index past the places is past the records.
use Rattle.std.specs.Prelude.{◌≡◌, refl, List, [], ◌∷◌, ℕ, zero, suc, ◌≤◌, ◌<◌, length, Option, Some, None, Ok, Err, ok_or, option_copied, MatchOption}
use Rattle.std.specs.List.{HoldsAt}
use denote.Ref.{Bor}
use Rattle.std.proofs.Common.{arith, ap}
use Rattle.status.specs.declared.StatusCode.{StatusCode}
use Rattle.status.specs.declared.StatusCode.TheVariants.{OUT_OF_TABLE}
use Rattle.definitions.specs.Result.{ok, err, at}
use Rattle.definitions.specs.Reading.{Reader}
use Rattle.definitions.specs.Places.{RecordAt, TableAt, more}
use Rattle.definitions.specs.Places.TableAt.{none as none'}
use Rattle.file_format.specs.Answers.{PartialVMResult, answer, answer_found, answer_refused}

-- ── the words ──

-- r is the place with an index
pub record PlaceAt (places : List ℕ) (i : ℕ) (r : PartialVMResult ℕ) : Type 0 where
  pub is : r ≡ answer (λ p. p) (at places i)

-- the record with an index, and the place where it stands
pub record EntryAt {A : Type 0} (body : Reader A) (s : List ℕ) (l : List A) (i p : ℕ) : Type 0 where
  pub item : A
  pub is : at l i ≡ ok item
  pub stands : RecordAt body s p item

-- ── the laws ──

-- what `get` lends of a list, made an answer, is what `at` finds
pub got :
    {A : Type 0} (l : List A) (i : ℕ) (r : Option (Bor A)) → MatchOption r (length l ≤ i) (λ x. (i < length l) × HoldsAt (λ y. x.now ≡ y) l i) →
    ok_or (option_copied r) OUT_OF_TABLE ≡ answer (λ x. x) (at l i)
unfolding at
got [] i None k = refl
got [] i (Some x) k = absurd (omega (arith, k.0))
got (y ∷ l) zero None k = absurd (omega (arith, k))
got (y ∷ l) zero (Some x) k = ap Ok (k.1 y)
got (y ∷ l) (suc i) None k = got l i None (omega (arith, k))
got (y ∷ l) (suc i) (Some x) k = got l i (Some x) (omega (arith, k.0), k.1)

module _ {A : Type 0} {body : Reader A} {s : List ℕ} where
  entry : {places : List ℕ} {l : List A} → TableAt body s places l → (i : ℕ) {p : ℕ} → at places i ≡ ok p → EntryAt body s l i p
  unfolding at
  entry none' i e = absurd cc
  entry (more {p} {a} r t) zero {p = q} e = let z : p ≡ q = cc in record { item = a; is = refl; stands = rw (← z) r }
  entry (more r t) (suc i) e = let k = entry t i e in record { item = k.item; is = k.is; stands = k.stands }

  no_entry : {places : List ℕ} {l : List A} → TableAt body s places l → (i : ℕ) {status : StatusCode} → at places i ≡ err status → at l i ≡ err status
  unfolding at
  no_entry none' i e = cc
  no_entry (more r t) zero e = absurd cc
  no_entry (more r t) (suc i) e = no_entry t i e

  module _ {places : List ℕ} {l : List A} (t : TableAt body s places l) {i : ℕ} where
    -- a place that was found is that of a record
    pub entry_at : {p : ℕ} → PlaceAt places i (Ok p) → EntryAt body s l i p
    entry_at k = let f = answer_found (λ p. p) (at places i) k.is in entry t i (rw f.2 f.1)

    pub entry_past : {status : StatusCode} → PlaceAt places i (Err status) → at l i ≡ err status
    entry_past k = no_entry t i (answer_refused (λ p. p) (at places i) k.is)
