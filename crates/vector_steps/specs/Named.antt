-- The element type that a vector instruction names: found in the unit, and compared with what an operand refers to. The laws of these looks
-- for the programs that they are part of.
use Rattle.std.specs.Prelude.{◌≡◌, List, Bool, ℕ, Ok, Err}
use Rattle.std.proofs.Math.Path.{refl, ap}
use Rattle.std.proofs.Common.{sym, ◌∙◌}
use Rattle.std.proofs.Math.Bool.{true, false}
use Rattle.status.specs.declared.StatusCode.{StatusCode}
use Rattle.file_format.specs.Answers.{PartialVMResult}
use Rattle.status.specs.declared.StatusCode.TheVariants.{TYPE_MISMATCH}
use Rattle.definitions.specs.Result.{Result, ok, err, ◌>>?◌}
use Rattle.definitions.specs.SignatureToken.{SignatureToken}
use Rattle.definitions.specs.Substitution.{get_vector_element_type}
use Rattle.definitions.specs.CompiledUnit.{CompiledUnit, element_type_at}
use Rattle.definitions.specs.Machine.{Step, ◌>>=◌, done, look, check}
use Rattle.definitions.specs.TypeSafety.{element_is}
use Rattle.definitions.specs.Places.{TypeAt}
use Rattle.signature_token.specs.Same.{Spans}
use Rattle.signature_token.specs.declared.TypeRef.{TypeRef}
use Rattle.type_stack.specs.Held.{Here}
use Rattle.type_stack.specs.Stepping.{StepsTo, done_here}
use Rattle.type_stack.specs.Answers.{Stepped}
use Rattle.operand_steps.specs.Operands.{span}
use Rattle.unit_tables.specs.Answers.{ResultIs, what_found, why_refused}
use Rattle.unit_views.specs.Lookups.{TypeOf}
use Rattle.vector_elements.specs.Elements.{is_element, ElementIs, guard_is}
use Rattle.step_views.specs.Looked.{type_then, looked_bad}

-- ── the words ──

abbrev pub of_element : SignatureToken → Bool → Result SignatureToken
of_element d true = ok d
of_element d false = err TYPE_MISMATCH

-- the element type that the instruction names, where the operand t refers to a vector of it
unfoldable pub named_element : CompiledUnit → ℕ → SignatureToken → Bool → Result SignatureToken
named_element u idx t mut_ref_only = element_type_at u idx >>? λ declared. of_element declared (is_element declared (get_vector_element_type t mut_ref_only))

-- it is what r refers to
pub record NamedElement (u : CompiledUnit) (idx : ℕ) (m : Bool) (a : List ℕ) (x l : ℕ) (r : PartialVMResult TypeRef) : Type 0 where
  pub is : (p : Spans a x l) → ResultIs TypeOf (named_element u idx p.type m) r

-- ── the look-up and the guard together ──

-- they are one look-up
module _ (t : SignatureToken) (m : Bool) where
  of_named : (x : Result SignatureToken) (f : SignatureToken → Step) →
      look x >>= (λ d. element_is d t m >>= (λ _. f d)) ≡ look (x >>? λ d. of_element d (is_element d (get_vector_element_type t m))) >>= f
  unfolding ◌>>=◌ ◌>>?◌ look check
  of_named (err y) f = refl
  of_named (ok d) f = rw (guard_is d t m) (go (is_element d (get_vector_element_type t m)))
    where
      go : (b : Bool) → check b TYPE_MISMATCH >>= (λ _. f d) ≡ look (of_element d b) >>= f
      go true = refl
      go false = refl

  of_named_last : (x : Result SignatureToken) → look x >>= (λ d. element_is d t m) ≡ look x >>= (λ d. element_is d t m >>= (λ _. done))
  unfolding ◌>>=◌ look check done
  of_named_last (err y) = refl
  of_named_last (ok d) = rw (guard_is d t m) (go (is_element d (get_vector_element_type t m)))
    where
      go : (b : Bool) → check b TYPE_MISMATCH ≡ check b TYPE_MISMATCH >>= (λ _. done)
      go true = refl
      go false = refl

module _ {u : CompiledUnit} {idx : ℕ} {m : Bool} {a : List ℕ} {x l : ℕ} {t : SignatureToken} {g : List ℕ} {w : ℕ} where
  pub named_then :
      {d : TypeRef} → NamedElement u idx m a x l (Ok d) → Here a x l t → (f : SignatureToken → Step) {b : List ℕ} {r : Stepped} →
      ((p : TypeAt d.bytes.now d.at) → StepsTo (f p.type) g w b r) → StepsTo (look (element_type_at u idx) >>= (λ d. element_is d t m >>= (λ _. f d))) g w b r
  unfolding named_element
  named_then k h f z = rw (of_named t m (element_type_at u idx) f) (type_then f (k.is (span h)) z)

  pub named_bad :
      {y : StatusCode} → NamedElement u idx m a x l (Err y) → Here a x l t → (f : SignatureToken → Step) →
      StepsTo (look (element_type_at u idx) >>= (λ d. element_is d t m >>= (λ _. f d))) g w g (Err y)
  unfolding named_element
  named_bad k h f = rw (of_named t m (element_type_at u idx) f) (looked_bad f (k.is (span h)))

  pub named_last : {d : TypeRef} → NamedElement u idx m a x l (Ok d) → Here a x l t → StepsTo (look (element_type_at u idx) >>= (λ d. element_is d t m)) g w g (Ok w)
  named_last k h = rw (of_named_last t m (element_type_at u idx)) (named_then k h (λ _. done) (λ p. done_here))

  pub named_last_bad : {y : StatusCode} → NamedElement u idx m a x l (Err y) → Here a x l t → StepsTo (look (element_type_at u idx) >>= (λ d. element_is d t m)) g w g (Err y)
  named_last_bad k h = rw (of_named_last t m (element_type_at u idx)) (named_bad k h (λ _. done))

-- what `named_element` finds: no signature, an element type that is not the operand's, or one that is
module _ (u : CompiledUnit) (idx : ℕ) {m : Bool} {a : List ℕ} {x l : ℕ} where
  pub named_none : {y : StatusCode} → ResultIs TypeOf (element_type_at u idx) (Err y) → NamedElement u idx m a x l (Err y)
  unfolding named_element ◌>>?◌
  named_none k = record { is = λ p. rw (why_refused k) (record { is = refl }) }

  module _ {d : TypeRef} (k : ResultIs TypeOf (element_type_at u idx) (Ok d)) {r : Bool} (i : ElementIs a x l d.bytes.now d.at m r) where
    named_test : (p : Spans a x l) → named_element u idx p.type m ≡ of_element (what_found k).0 r
    unfolding named_element ◌>>?◌
    named_test p =
        let n = what_found k in
        ap (λ (x : Result SignatureToken). x >>? λ declared. of_element declared (is_element declared (get_vector_element_type p.type m))) n.1
        ∙ ap (of_element n.0) (sym (i.is p (record { type = n.0; stands = n.2 })))

    pub named_yes : r ≡ true → NamedElement u idx m a x l (Ok d)
    named_yes f = record { is = λ p. rw (named_test p, f) (record { is = (what_found k).2 }) }

    pub named_no : r ≡ false → NamedElement u idx m a x l (Err TYPE_MISMATCH)
    named_no f = record { is = λ p. rw (named_test p, f) (record { is = refl }) }

-- what `named_element` answers of an element type that was found
pub ruleset named = (named_yes, named_no)
