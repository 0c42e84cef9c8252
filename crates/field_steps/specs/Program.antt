-- `borrow_field` by the parts that the functions of this crate answer: the field's owner and the field's declared type are each looked up
-- in two steps. And the comparison of the operand's referent with the owner's struct.
use Rattle.std.specs.Prelude.{◌≡◌, refl, Bool, List, ℕ}
use Rattle.std.proofs.Common.{sym, ap, ◌∙◌}
use Rattle.status.specs.declared.StatusCode.TheVariants.{BORROWFIELD_TYPE_MISMATCH_ERROR, BORROWFIELD_BAD_FIELD_ERROR}
use Rattle.definitions.specs.Result.{Result, ok, err, ◌>>?◌, or_err, at}
use Rattle.definitions.specs.SignatureToken.{SignatureToken, Signature, same}
use Rattle.definitions.specs.CompiledUnit as defs
use Rattle.definitions.specs.Substitution.{materialize_type, instantiate, reference_to, inner}
use Rattle.definitions.specs.Machine.{Program, Step, ◌>>=◌, ◌>>◌, pop, look, check, push}
use Rattle.definitions.specs.TypeSafety as step
use Rattle.definitions.specs.TypeSafety.{declared_fields}
use Rattle.signature_token.specs.Same.{Spans, same_both}
use Rattle.signature_token.specs.declared.SignatureView.{SignatureView}
use Rattle.record_views.specs.Records.{TypesIn}
use Rattle.type_stack.specs.Stepping.{StepsTo}
use Rattle.type_stack.specs.Answers.{Stepped}
use Rattle.made_types.specs.Made.{StructIs}
use Rattle.field_steps.specs.Borrows.{FieldOwner, field_owner, OwnerAt, field_of, borrow_from}
use Rattle.field_steps.specs.Operand.{allowed}
use Rattle.field_steps.specs.declared.Owner.{Owner}

-- ── the parts ──

-- the owner's two look-ups as one
unfoldable pub borrow_by_parts : defs.CompiledUnit → Bool → ℕ → Signature → Step
borrow_by_parts u mut idx type_args = do
  operand ← pop
  check (allowed mut operand) BORROWFIELD_TYPE_MISMATCH_ERROR
  o ← look (field_owner u idx)
  referent ← look (or_err BORROWFIELD_TYPE_MISMATCH_ERROR (inner operand))
  borrow_from mut o type_args referent

-- two look-ups in a row as one, where the second's value is kept and where both are
look_row : {A B C : Type 0} (x : Result A) (y : A → Result B) (k : B → Program C) → look x >>= (λ a. look (y a) >>= k) ≡ look (x >>? y) >>= k
unfolding look ◌>>=◌ ◌>>?◌
look_row (ok a) y k = refl
look_row (err w) y k = refl

look_pair :
    {A B C D : Type 0} (x : Result A) (y : A → Result B) (z : A → B → C) (k : C → Program D) →
    look x >>= (λ a. look (y a) >>= (λ b. k (z a b))) ≡ look (x >>? λ a. y a >>? λ b. ok (z a b)) >>= k
unfolding look ◌>>=◌ ◌>>?◌
look_pair (ok a) y z k = look_row (y a) (λ b. ok (z a b)) k
look_pair (err w) y z k = refl

module _ (u : defs.CompiledUnit) (mut : Bool) (idx : ℕ) (type_args : Signature) where
  -- what follows the owner's look-ups, up to those of the field's declared type
  abbrev after_owner : SignatureToken → (FieldOwner → Step) → FieldOwner → Step
  after_owner operand field o = do
    referent ← look (or_err BORROWFIELD_TYPE_MISMATCH_ERROR (inner operand))
    check (same (materialize_type o.def.struct_handle type_args) referent) BORROWFIELD_TYPE_MISMATCH_ERROR
    field o

  -- what follows the latter
  abbrev after_field : SignatureToken → Step
  after_field field_def = do
    field_type ← look (instantiate field_def type_args)
    push (reference_to mut field_type)

  -- the field's declared type looked up as in the definitions
  abbrev field_in_two : FieldOwner → Step
  field_in_two o = do
    fields ← look (declared_fields BORROWFIELD_BAD_FIELD_ERROR o.def.field_information)
    field_def ← look (at fields o.field)
    after_field field_def

  parts : step.borrow_field u mut idx type_args ≡ borrow_by_parts u mut idx type_args
  unfolding step.borrow_field borrow_by_parts borrow_from field_of field_owner
  parts i = pop >>= (λ operand. check (allowed mut operand) BORROWFIELD_TYPE_MISMATCH_ERROR >> owner operand i)
    where
      owner :
          (operand : SignatureToken) →
          look (defs.field_handle_at u idx) >>= (λ h. look (defs.struct_def_at u h.owner) >>= (λ d. after_owner operand field_in_two (record { def = d; field = h.field })))
          ≡ look (field_owner u idx) >>= after_owner operand (λ o. look (field_of o) >>= after_field)
      owner operand =
          look_pair (defs.field_handle_at u idx) (λ h. defs.struct_def_at u h.owner) (λ h d. record { def = d; field = h.field }) (after_owner operand field_in_two)
          ∙ (λ i. look (field_owner u idx) >>= after_owner operand (λ o. look_row (declared_fields BORROWFIELD_BAD_FIELD_ERROR o.def.field_information) (λ fields. at fields o.field) after_field i))

  pub by_parts : {a b : List ℕ} {w : ℕ} {r : Stepped} → StepsTo (borrow_by_parts u mut idx type_args) a w b r → StepsTo (step.borrow_field u mut idx type_args) a w b r
  by_parts h = rw parts h

-- ── the struct ──

-- the operand's referent compared with the owner's struct
pub struct_test :
    {a : List ℕ} {x len : ℕ} {r : Owner} {list : SignatureView} {b v : Bool} → StructIs a x len r.def.handle.0 list b → b ≡ v →
    (o : OwnerAt r) (l : TypesIn list) (p : Spans a x len) → same (materialize_type o.owner.def.struct_handle l.types) p.type ≡ v
struct_test k e o l p =
    let t = materialize_type o.owner.def.struct_handle l.types in
    same_both p.type t t p.type sym sym ∙ ap (λ (h : ℕ). same p.type (materialize_type h l.types)) (sym o.are.def.handle) ∙ sym (k.is p l) ∙ e
