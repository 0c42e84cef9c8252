-- What the looks of the steps over global storage answer: a struct that must have key, and an operand that must be `&signer`. The laws of
-- these looks.
use Rattle.std.specs.Prelude.{List, Bool, ◌≡◌, ℕ, false, Ok, Err}
use Rattle.std.proofs.Math.Path.{refl, sym, ap}
use Rattle.std.proofs.Common.{◌∙◌}
use Rattle.status.specs.declared.StatusCode.{StatusCode}
use Rattle.definitions.specs.Result.{Result}
use Rattle.definitions.specs.SignatureToken.{SignatureToken, Address, Reference, Signer, same}
use Rattle.definitions.specs.Substitution.{reference_to}
use Rattle.definitions.specs.CompiledUnit as defs
use Rattle.definitions.specs.CompiledUnit.{CompiledUnit}
use Rattle.definitions.specs.Machine.{Step, ◌>>=◌, look}
use Rattle.definitions.specs.TypeSafety.{struct_type, needs_key, pop_expecting}
use Rattle.definitions.specs.Places.{TypeAt}
use Rattle.file_format.specs.declared.Ability.TheVariants.{Key}
use Rattle.file_format.specs.Answers.{PartialVMResult}
use Rattle.type_tests.specs.declared.Referent.{Referent}
use Rattle.type_tests.specs.declared.Referent.TheVariants as referent
use Rattle.signature_token.specs.Token.{token_of}
use Rattle.signature_token.specs.TokenLaws.{is_signer}
use Rattle.type_tests.specs.Kinds.{ReferentAt, LeafAt, referent_of}
use Rattle.signature_token.specs.Same.{same_no, same_both}
use Rattle.type_stack.specs.Held.{Here}
use Rattle.type_stack.specs.Answers.{Stepped}
use Rattle.type_stack.specs.Stepping.{StepsTo, look_then, look_bad, check_then, check_bad, nested}
use Rattle.operand_steps.specs.Leaves.{PopsLeaf, address_refused, address_then}
use Rattle.operand_steps.specs.Operands.{span, referent as referent_type, refers_to}
use Rattle.made_types.specs.Made.{StructIs}
use Rattle.step_views.specs.declared.StructWith.{StructWith}
use Rattle.step_views.specs.Checks.{AbilityIs, ability_then, ability_bad}
use Rattle.step_views.specs.Looked.{StructIn, Looked, struct_given, struct_refused, struct_types, with_type}

-- ── the words ──

-- r says whether the type at `at` is `&signer`
pub record SignerReferenceAt (a : List ℕ) (at : ℕ) (r : Bool) : Type 0 where
  pub is : (p : TypeAt a at) → r ≡ same p.type (Reference Signer)

-- ── a struct that was looked up, and must have key ──

-- how each of these steps begins
abbrev keyed : CompiledUnit → StatusCode → (defs.StructWith → Step) → Result defs.StructWith → Step
keyed u status f found = look found >>= (λ struct. needs_key u struct status >>= (λ _. f struct))

-- Exists and MoveFrom: then an address is popped
abbrev addressed : StatusCode → (defs.StructWith → Step) → defs.StructWith → Step
addressed status f struct = pop_expecting Address status >>= (λ _. f struct)

module _ {looked : PartialVMResult StructWith} (w : Looked looked) where
  pub none_found : (f : defs.StructWith → Step) {v : StatusCode} {a : List ℕ} {x : ℕ} → looked ≡ Err v → StepsTo (look w.result >>= f) a x a (Err v)
  none_found f e = look_bad f (struct_refused w e)

  module _ {d : StructWith} (e : looked ≡ Ok d) {u : CompiledUnit} {status : StatusCode} {a : List ℕ} {x : ℕ} where
    pub key_then :
        (f : defs.StructWith → Step) {b : List ℕ} {q : Stepped} → ((p : StructIn d) → AbilityIs u (struct_type p.struct) Key status (Ok tt)) →
        ((p : StructIn d) → StepsTo (f p.struct) a x b q) → StepsTo (keyed u status f w.result) a x b q
    unfolding needs_key
    key_then f k h = struct_given w (keyed u status f) e (λ p. look_then _ refl (nested _ _ _ (ability_then (k p) (λ set m. check_then _ _ m (h p)))))

    pub key_bad :
        (f : defs.StructWith → Step) {v : StatusCode} → ((p : StructIn d) → AbilityIs u (struct_type p.struct) Key status (Err v)) →
        StepsTo (keyed u status f w.result) a x a (Err v)
    unfolding needs_key
    key_bad f k = struct_given w (keyed u status f) e (λ p. look_then _ refl (nested _ _ _ (ability_bad (k p) (λ set m. check_bad _ m))))

    module _ (f : defs.StructWith → Step) (k : (p : StructIn d) → AbilityIs u (struct_type p.struct) Key status (Ok tt)) {mismatch : StatusCode} where
      pub no_address : {v : StatusCode} → PopsLeaf 0x05 mismatch a x (Err v) → StepsTo (keyed u status (addressed mismatch f) w.result) a x a (Err v)
      no_address l = key_then (addressed mismatch f) k (λ p. address_refused l (λ _. f p.struct))

      pub at_address :
          {y : ℕ} {b : List ℕ} {q : Stepped} → PopsLeaf 0x05 mismatch a x (Ok y) → ((p : StructIn d) → StepsTo (f p.struct) a y b q) →
          StepsTo (keyed u status (addressed mismatch f) w.result) a x b q
      at_address l h = key_then (addressed mismatch f) k (λ p. address_then l (λ _. f p.struct) (h p))

-- ── an operand that must be the struct ──

pub struct_same :
    {a : List ℕ} {x l : ℕ} {d : StructWith} {r b : Bool} {t : SignatureToken} (p : StructIn d) → StructIs a x l d.def.handle.0 d.type_args r →
    Here a x l t → r ≡ b → same t (struct_type p.struct) ≡ b
struct_same {t = t} p k h i = ap (same t) (sym (with_type p)) ∙ sym (k.is (span h) (struct_types p)) ∙ i

-- ── `&signer` ──

module _ {a : List ℕ} {x : ℕ} {r : Referent} (k : ReferentAt a x r) where
  pub signer_by : {y : ℕ} {b : Bool} → r ≡ referent.Reference y → LeafAt a y 6 b → SignerReferenceAt a x b
  unfolding reference_to
  signer_by e l = record {
    is = λ p.
        let n = refers_to k e p in
        l (referent_type n) Signer is_signer ∙ sym (same_both n.type Signer p.type (Reference Signer) (λ i. n.is ∙ ap Reference i) (λ i. cc n.is));
  }

  -- no immutable reference
  pub signer_not : ((y : ℕ) → r ≡ referent.Reference y → ⊥) → SignerReferenceAt a x false
  unfolding token_of
  signer_not f = record { is = λ p. sym (same_no p.type (Reference Signer) (λ i. f _ (k p ∙ ap (λ (t : SignatureToken). referent_of (token_of t x)) i))) }
