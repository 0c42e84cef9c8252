-- What the look-ups in the unit tell a step's program, as laws from what is left of it to the whole: whatever was found, or a refusal. And where
-- the types stand that were found: of a signature, a local's or a constant's, and a struct's type arguments.
use Rattle.std.specs.Prelude.{◌≡◌, List, ℕ, ◌≤◌, length, Ok, Err, IfOk}
use Rattle.std.proofs.Common.{sym, ap, arith}
use Rattle.status.specs.declared.StatusCode.{StatusCode}
use Rattle.definitions.specs.Result.{Result, ok, err}
use Rattle.definitions.specs.SignatureToken.{SignatureToken, Signature}
use Rattle.definitions.specs.CompiledUnit as defs
use Rattle.definitions.specs.Substitution.{materialize_type}
use Rattle.definitions.specs.Machine.{Step, ◌>>=◌, look}
use Rattle.definitions.specs.Places.{TypeAt}
use Rattle.definitions.specs.TypeSafety.{struct_type}
use Rattle.signature_token.specs.declared.SignatureView.{SignatureView}
use Rattle.signature_token.specs.declared.TypeRef.{TypeRef}
use Rattle.record_views.specs.declared.Fields.{Fields}
use Rattle.record_views.specs.Records.{TypesIn, ListIs, FieldsIn}
use Rattle.file_format.specs.Answers.{PartialVMResult}
use Rattle.type_stack.specs.Answers.{Stepped}
use Rattle.type_stack.specs.Stepping.{StepsTo, look_then, look_bad}
use Rattle.unit_tables.specs.declared.UnitView.{UnitView}
use Rattle.unit_tables.specs.Answers.{ResultIs, what_found, why_refused}
use Rattle.unit_tables.specs.Compiled.{unit_read}
use Rattle.unit_tables.specs.Tables.{unit_short}
use Rattle.unit_views.specs.Lookups.{TypeOf}
use Rattle.step_views.specs.declared.StructWith.{StructWith}
use Rattle.step_views.specs.Structs.{WithIs, WithIn}

-- ── a look-up whose answer stands for the value ──

module _ {A B : Type 0} {R : A → B → Type 0} {g : Result A} (k : A → Step) {a : List ℕ} {x : ℕ} where
  pub looked_then : {v : B} {b : List ℕ} {q : Stepped} → ResultIs R g (Ok v) → ((h : A) → R h v → StepsTo (k h) a x b q) → StepsTo (look g >>= k) a x b q
  looked_then w f = let n = what_found w in look_then k n.1 (f n.0 n.2)

  pub looked_bad : {v : StatusCode} → ResultIs R g (Err v) → StepsTo (look g >>= k) a x a (Err v)
  looked_bad w = look_bad k (why_refused w)

-- ── a look-up whose answer tells the value ──

module _ {A : Type 0} {g : Result A} (k : A → Step) {a : List ℕ} {x : ℕ} where
  pub told_then : {h : A} {b : List ℕ} {q : Stepped} → ok h ≡ g → StepsTo (k h) a x b q → StepsTo (look g >>= k) a x b q
  told_then e f = look_then k (sym e) f

  pub told_bad : {v : StatusCode} → err v ≡ g → StepsTo (look g >>= k) a x a (Err v)
  told_bad e = look_bad k (sym e)

-- what a step answers whose look-up was refused
pub ruleset looks = (looked_bad, told_bad)

-- ── types of the unit ──

-- a step goes on with the types that were found
pub types_then :
    {g : Result Signature} {l : SignatureView} (k : Signature → Step) {a b : List ℕ} {x : ℕ} {q : Stepped} → ResultIs ListIs g (Ok l) →
    ((p : TypesIn l) → StepsTo (k p.types) a x b q) → StepsTo (look g >>= k) a x b q
types_then k w f = looked_then k w (λ h r. f (record { types = h; are = r }))

-- and with the type that was
pub type_then :
    {g : Result SignatureToken} {ty : TypeRef} (k : SignatureToken → Step) {a b : List ℕ} {x : ℕ} {q : Stepped} → ResultIs TypeOf g (Ok ty) →
    ((p : TypeAt ty.bytes.now ty.at) → StepsTo (k p.type) a x b q) → StepsTo (look g >>= k) a x b q
type_then k w f = looked_then k w (λ h r. f (record { type = h; stands = r }))

-- a unit's bytes are few, as the pushes of its types require
pub unit_room : (unit : UnitView) → length unit.bytes.now ≤ 65535
unit_room unit = omega (arith, unit_short (unit_read unit))

-- and so are those of a list or of a type that was found in it
pub list_room : (unit : UnitView) {bytes : List ℕ} → bytes ≡ unit.bytes.now → length bytes ≤ 65535
list_room unit e = rw e (unit_room unit)

-- ── structs with their type arguments ──

-- the struct, as the definitions have it
pub record StructIn (r : StructWith) : Type 0 where
  pub struct : defs.StructWith
  pub is : WithIs struct r

-- what a look-up of one answers, a refusal too
pub record Looked (r : PartialVMResult StructWith) : Type 0 where
  pub result : Result defs.StructWith
  pub is : ResultIs WithIs result r

-- the bytes are few in which its fields' types and its type arguments stand
abbrev pub FewFields : Fields → Type 0
FewFields Fields.Native = Unit {0}
FewFields (Fields.Declared l) = length l.types.bytes.now ≤ 65535

abbrev pub FewBytes : StructWith → Type 0
FewBytes r = (length r.type_args.types.bytes.now ≤ 65535) × FewFields r.def.fields

-- as they are where it was looked up in a unit
pub few_bytes : (unit : UnitView) (looked : PartialVMResult StructWith) → IfOk looked (WithIn unit.bytes.now) → IfOk looked FewBytes
few_bytes unit looked h = go looked h
  where
    fields : (f : Fields) → FieldsIn unit.bytes.now f → FewFields f
    fields Fields.Native e = tt
    fields (Fields.Declared l) e = list_room unit e

    go : (r : PartialVMResult StructWith) → IfOk r (WithIn unit.bytes.now) → IfOk r FewBytes
    go (Ok d) w = (list_room unit w.args, fields d.def.fields w.fields)
    go (Err v) w = tt

-- what one answered
abbrev pub looked_up : {g : Result defs.StructWith} {looked : PartialVMResult StructWith} → ResultIs WithIs g looked → Looked looked
looked_up w = record { result = _; is = w }

-- a refusal stays
pub struct_refused : {looked : PartialVMResult StructWith} (w : Looked looked) {v : StatusCode} → looked ≡ Err v → w.result ≡ err v
struct_refused w e = why_refused (rw e at w.is)

module _ {d : StructWith} where
  -- a step of its own goes on with it
  pub struct_given :
      {looked : PartialVMResult StructWith} (w : Looked looked) (f : Result defs.StructWith → Step) {a b : List ℕ} {x : ℕ} {q : Stepped} → looked ≡ Ok d →
      ((p : StructIn d) → StepsTo (f (ok p.struct)) a x b q) → StepsTo (f w.result) a x b q
  struct_given w f e k = let n = what_found (rw e at w.is) in rw n.1 (k (record { struct = n.0; is = n.2 }))

  module _ (p : StructIn d) where
    -- its type arguments
    abbrev pub struct_types : TypesIn d.type_args
    struct_types = record { types = p.struct.type_args; are = p.is.args }

    -- its type is made of the handle that was found
    pub with_type : materialize_type d.def.handle.0 p.struct.type_args ≡ struct_type p.struct
    unfolding struct_type
    with_type = ap (λ (h : ℕ). materialize_type h p.struct.type_args) p.is.def.handle

-- what the calls on what was found require
pub ruleset types = (unit_room, list_room)
