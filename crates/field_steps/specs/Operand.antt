-- The operand that a field is borrowed from: what the answer of the look at it tells of the check before the look-ups, and of what the
-- operand refers to.
use Rattle.std.specs.Prelude.{◌≡◌, Bool, not, ◌&&◌, List, ℕ, ◌-◌, ◌≤◌, Option, Some, None, Result as Answer, Ok, Err, ok_or}
use Rattle.std.proofs.Math.Path.{refl}
use Rattle.std.proofs.Common.{sym, ap, arith}
use Rattle.std.proofs.Math.Bool.{true, false}
use Rattle.std.proofs.Math.Option.{some, none}
use Rattle.status.specs.declared.StatusCode.{StatusCode}
use Rattle.status.specs.declared.StatusCode.TheVariants.{BORROWFIELD_TYPE_MISMATCH_ERROR}
use Rattle.definitions.specs.Result.{err, or_err}
use Rattle.definitions.specs.SignatureToken.{SignatureToken}
use Rattle.definitions.specs.Substitution.{inner, is_mutable_reference}
use Rattle.type_tests.specs.declared.Referent.{Referent}
use Rattle.type_tests.specs.declared.Referent.TheVariants as kind
use Rattle.signature_token.specs.Same.{Spans}
use Rattle.definitions.specs.Machine.{Step, ◌>>=◌, check}
use Rattle.type_stack.specs.Answers.{same_ok, same_err}
use Rattle.type_stack.specs.Held.{Here}
use Rattle.type_stack.specs.Stepping.{StepsTo, check_bad}
use Rattle.operand_steps.specs.Operands.{Refers, refers, refers_mutably, refers_not, inner_is, mutable_is, mutable_not, no_mutable}
use Rattle.field_steps.specs.Borrows.{BorrowedAt, borrowed_of}

-- the check before the look-ups
abbrev pub allowed : Bool → SignatureToken → Bool
allowed mut t = not (mut && not (is_mutable_reference t))

-- the type t of l bytes is a reference that the check lets pass, to the type at y
pub record Inside (mut : Bool) (a : List ℕ) (l : ℕ) (t : SignatureToken) (y : ℕ) : Type 0 where
  pub passes : allowed mut t ≡ true
  pub room : 1 ≤ l
  pub span : Spans a y (l - 1)
  pub is : inner t ≡ some span.type

-- what an answer tells of the operand t of l bytes
abbrev Told : Bool → List ℕ → ℕ → SignatureToken → Answer (Option ℕ) StatusCode → Type 0
Told mut a l t (Ok (Some y)) = Inside mut a l t y
Told mut a l t (Ok None) = (allowed mut t ≡ true) × (inner t ≡ none)
Told mut a l t (Err v) = (allowed mut t ≡ false) × (v ≡ BORROWFIELD_TYPE_MISMATCH_ERROR)

inside : {mut m : Bool} {a : List ℕ} {x l : ℕ} {t : SignatureToken} {y : ℕ} → allowed mut t ≡ true → Refers m a x l t y → Inside mut a l t y
inside e n = record {
  passes = e;
  room = omega (arith, n.long);
  span = record { type = n.type; stands = n.stands; long = omega (arith, n.long) };
  is = inner_is n;
}

module _ {mut : Bool} {a : List ℕ} {x l : ℕ} {t : SignatureToken} (h : Here a x l t) where
  told : {r : Answer (Option ℕ) StatusCode} → BorrowedAt mut a x r → Told mut a l t r
  unfolding is_mutable_reference
  told k = rw k.is (go mut k.referent refl)
    where
      go : (m : Bool) (q : Referent) → k.referent ≡ q → Told m a l t (borrowed_of m q)
      go true (kind.MutableReference y) f = let n = refers_mutably k.told h f in inside (rw (mutable_is n refl)) n
      go false (kind.MutableReference y) f = inside refl (refers_mutably k.told h f)
      go true (kind.Reference y) f = (rw (mutable_not (refers k.told h f) refl), refl)
      go false (kind.Reference y) f = inside refl (refers k.told h f)
      go true kind.Value f = (rw (no_mutable k.told h (λ y e. let z : ◌≡◌ {A = ℕ} 0 1 = cc in omega arith)), refl)
      go false kind.Value f = (refl, refers_not k.told h f)

  -- refused before the look-ups
  pub refused_early : {v : StatusCode} → BorrowedAt mut a x (Err v) → (f : Unit {0} → Step) {w : ℕ} → StepsTo (check (allowed mut t) BORROWFIELD_TYPE_MISMATCH_ERROR >>= f) a w a (Err v)
  refused_early k f = let n = told k in rw n.1 (check_bad f n.0)

  module _ {o : Option ℕ} (k : BorrowedAt mut a x (Ok o)) where
    pub passed : allowed mut t ≡ true
    passed = go o (told k)
      where
        go : (p : Option ℕ) → Told mut a l t (Ok p) → allowed mut t ≡ true
        go (Some z) i = i.passes
        go None i = i.0

    -- refused after them
    pub no_referent : {v : StatusCode} → Err v ≡ ok_or o BORROWFIELD_TYPE_MISMATCH_ERROR → or_err BORROWFIELD_TYPE_MISMATCH_ERROR (inner t) ≡ err v
    no_referent {v} e = go o (told k) e
      where
        go : (p : Option ℕ) → Told mut a l t (Ok p) → Err v ≡ ok_or p BORROWFIELD_TYPE_MISMATCH_ERROR → or_err BORROWFIELD_TYPE_MISMATCH_ERROR (inner t) ≡ err v
        go (Some z) i f = absurd cc
        go None i f = rw i.1 (ap err (sym (same_err f)))

    pub a_reference : {z : ℕ} → Ok z ≡ ok_or o BORROWFIELD_TYPE_MISMATCH_ERROR → Inside mut a l t z
    a_reference {z} e = go o (told k) e
      where
        go : (p : Option ℕ) → Told mut a l t (Ok p) → Ok z ≡ ok_or p BORROWFIELD_TYPE_MISMATCH_ERROR → Inside mut a l t z
        go (Some v) i f = rw (same_ok f) i
        go None i f = absurd cc
