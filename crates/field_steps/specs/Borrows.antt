-- The parts of `borrow_field`: the operand, the field handle's struct definition, the field's declared type, and what is left of the program
-- once these are known. What the functions of the crate answer of each.
use Rattle.std.specs.Prelude.{List, Bool, true, false, ◌≡◌, ℕ, Option, Some, None, Result as Answer, Ok, Err}
use Rattle.status.specs.declared.StatusCode.{StatusCode}
use Rattle.status.specs.declared.StatusCode.TheVariants.{BORROWFIELD_TYPE_MISMATCH_ERROR, BORROWFIELD_BAD_FIELD_ERROR}
use Rattle.definitions.specs.Result.{Result, ok, ◌>>?◌, at}
use Rattle.definitions.specs.SignatureToken.{SignatureToken, Signature, same}
use Rattle.definitions.specs.CompiledUnit as defs
use Rattle.definitions.specs.Substitution.{materialize_type, instantiate, reference_to}
use Rattle.definitions.specs.Machine.{Step, ◌>>=◌, ◌>>◌, look, check, push}
use Rattle.definitions.specs.TypeSafety.{declared_fields}
use Rattle.signature_token.specs.declared.SignatureView.{SignatureView}
use Rattle.signature_token.specs.declared.TypeRef.{TypeRef}
use Rattle.record_views.specs.Records.{TypesIn, DefIs}
use Rattle.signature_token.specs.Same.{Spans}
use Rattle.type_tests.specs.Kinds.{ReferentAt}
use Rattle.type_tests.specs.declared.Referent.{Referent}
use Rattle.type_tests.specs.declared.Referent.TheVariants as kind
use Rattle.type_stack.specs.Stepping.{StepsTo}
use Rattle.type_stack.specs.Answers.{Stepped}
use Rattle.unit_tables.specs.Answers.{ResultIs}
use Rattle.unit_views.specs.Lookups.{TypeOf}
use Rattle.field_steps.specs.declared.Owner.{Owner}

-- ── the operand ──

-- what a type refers to, as the instruction asks: with `mut` only a `&mut` will do
abbrev pub borrowed_of : Bool → Referent → Answer (Option ℕ) StatusCode
borrowed_of mut (kind.MutableReference x) = Ok (Some x)
borrowed_of true (kind.Reference x) = Err BORROWFIELD_TYPE_MISMATCH_ERROR
borrowed_of false (kind.Reference x) = Ok (Some x)
borrowed_of true kind.Value = Err BORROWFIELD_TYPE_MISMATCH_ERROR
borrowed_of false kind.Value = Ok None

-- r is the type at `place` as an operand that a field is borrowed from
pub record BorrowedAt (mut : Bool) (a : List ℕ) (place : ℕ) (r : Answer (Option ℕ) StatusCode) : Type 0 where
  pub referent : Referent
  pub told : ReferentAt a place referent
  pub is : r ≡ borrowed_of mut referent

-- ── the field ──

-- a field handle's struct definition, and the field's number in it
pub record FieldOwner : Type 0 where
  pub def : defs.StructDefinition
  pub field : ℕ

unfoldable pub field_owner : defs.CompiledUnit → ℕ → Result FieldOwner
field_owner u idx = defs.field_handle_at u idx >>? λ handle. defs.struct_def_at u handle.owner >>? λ def. ok (record { def = def; field = handle.field })

pub record OwnerIs (o : FieldOwner) (r : Owner) : Type 0 where
  pub def : DefIs o.def r.def
  pub field : r.field ≡ o.field

-- the owner, as the definitions have it
pub record OwnerAt (r : Owner) : Type 0 where
  pub owner : FieldOwner
  pub are : OwnerIs owner r

-- the field's declared type
unfoldable pub field_of : FieldOwner → Result SignatureToken
field_of o = declared_fields BORROWFIELD_BAD_FIELD_ERROR o.def.field_information >>? λ fields. at fields o.field

pub record FieldAt (r : Owner) (q : Answer TypeRef StatusCode) : Type 0 where
  pub is : (o : OwnerAt r) → ResultIs TypeOf (field_of o.owner) q

-- ── the program ──

-- `borrow_field` with the operand's referent and the field's owner at hand
unfoldable pub borrow_from : Bool → FieldOwner → Signature → SignatureToken → Step
borrow_from mut o type_args referent = do
  check (same (materialize_type o.def.struct_handle type_args) referent) BORROWFIELD_TYPE_MISMATCH_ERROR
  field_def ← look (field_of o)
  field_type ← look (instantiate field_def type_args)
  push (reference_to mut field_type)

pub record BorrowsFrom (mut : Bool) (r : Owner) (list : SignatureView) (x len : ℕ) (a : List ℕ) (w : ℕ) (b : List ℕ) (q : Stepped) : Type 0 where
  pub steps : (o : OwnerAt r) (l : TypesIn list) (p : Spans a x len) → StepsTo (borrow_from mut o.owner l.types p.type) a w b q
