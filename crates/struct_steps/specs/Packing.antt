-- The laws of the programs over a struct's fields, each from what is left of the program to the whole: the fields that a definition
-- declares, all of them instantiated, and the operand that is the struct.
use Rattle.std.specs.Prelude.{List, reverse, ◌≡◌, Ok, Err, Bool, true, false, ℕ}
use Rattle.std.proofs.Math.Path.{refl}
use Rattle.std.proofs.Common.{sym, ap, ◌∙◌}
use Rattle.status.specs.declared.StatusCode.{StatusCode}
use Rattle.status.specs.declared.StatusCode.TheVariants.{PACK_TYPE_MISMATCH_ERROR, UNPACK_TYPE_MISMATCH_ERROR}
use Rattle.definitions.specs.Result.{Result, ok, err, ◌>>?◌}
use Rattle.definitions.specs.SignatureToken.{SignatureToken, Signature, same}
use Rattle.definitions.specs.CompiledUnit as defs
use Rattle.definitions.specs.Substitution.{instantiate, instantiate_each}
use Rattle.definitions.specs.Machine.{Step, ◌>>=◌, ◌>>◌, pop, look, push, pop_each, push_each}
use Rattle.definitions.specs.TypeSafety.{declared_fields, struct_type, type_fields_signature, pop_expecting}
use Rattle.signature_token.specs.declared.SignatureView.{SignatureView}
use Rattle.record_views.specs.declared.Fields.{Fields}
use Rattle.record_views.specs.Records.{TypesIn, FieldsAre}
use Rattle.type_places.specs.Arguments.{Arguments}
use Rattle.type_places.specs.Places.{PlacedList}
use Rattle.type_stack.specs.Held.{Here}
use Rattle.type_stack.specs.Stepping.{StepsTo, look_then, look_bad, check_then, check_bad, pop_then, pop_none, and_then, and_bad, nested}
use Rattle.type_stack.specs.Tops.{TopOf}
use Rattle.type_stack.specs.declared.Entry.{Entry}
use Rattle.type_stack.specs.Answers.{Stepped}
use Rattle.operand_steps.specs.Operands.{span}
use Rattle.step_views.specs.declared.StructWith.{StructWith}
use Rattle.step_views.specs.Looked.{StructIn, struct_types, with_type}
use Rattle.list_steps.specs.Forms.{PopsEach, PushesEach, InstantiatesEach, instantiates_of}
use Rattle.list_steps.specs.Made.{arguments_of, placed_types, pops_fields, pushes_fields}
use Rattle.made_types.specs.Made.{StructIs, PushesStruct}
use Rattle.struct_steps.specs.Fields.{pack_fields, unpack_fields, PacksFields, UnpacksFields}

-- ── the fields that a definition declares ──

-- what `type_fields_signature` makes of a definition's fields
abbrev fields_of : defs.StructFieldInformation → Signature → Result Signature
fields_of x subst = declared_fields PACK_TYPE_MISMATCH_ERROR x >>? λ ts. instantiate_each ts subst

module _ {d : StructWith} (w : StructIn d) where
  -- of a native struct
  fields_none : d.def.fields ≡ Fields.Native → type_fields_signature w.struct ≡ err PACK_TYPE_MISMATCH_ERROR
  unfolding type_fields_signature ◌>>?◌
  fields_none i = go w.struct.def.field_information (rw i at w.is.def.fields)
    where
      go : (x : defs.StructFieldInformation) → FieldsAre x Fields.Native → fields_of x w.struct.type_args ≡ err PACK_TYPE_MISMATCH_ERROR
      go defs.Native k = refl
      go (defs.Declared ts) k = absurd k

  -- of one that declares them
  fields_some : {l : SignatureView} → d.def.fields ≡ Fields.Declared l → (p : TypesIn l) × (type_fields_signature w.struct ≡ instantiate_each p.types w.struct.type_args)
  unfolding type_fields_signature ◌>>?◌
  fields_some {l} i = go w.struct.def.field_information (rw i at w.is.def.fields)
    where
      go : (x : defs.StructFieldInformation) → FieldsAre x (Fields.Declared l) → (p : TypesIn l) × (fields_of x w.struct.type_args ≡ instantiate_each p.types w.struct.type_args)
      go defs.Native k = absurd k
      go (defs.Declared ts) k = (record { types = ts; are = k }, refl)

  module _ {a : List ℕ} {x : ℕ} where
    -- what is left of a step then: a refusal, or what `pack_fields` and `unpack_fields` do
    pub fields_bad : (k : Signature → Step) → d.def.fields ≡ Fields.Native → StepsTo (look (type_fields_signature w.struct) >>= k) a x a (Err PACK_TYPE_MISMATCH_ERROR)
    fields_bad k i = look_bad k (fields_none i)

    module _ {l : SignatureView} (i : d.def.fields ≡ Fields.Declared l) {b : List ℕ} {r : Stepped} where
      pub pack_then : PacksFields d.def.handle.0 l d.type_args a x b r →
          StepsTo (look (type_fields_signature w.struct) >>= (λ ts. pop_each PACK_TYPE_MISMATCH_ERROR ok (reverse ts) >> push (struct_type w.struct))) a x b r
      unfolding pack_fields
      pack_then f = let (p, k) = fields_some i in rw (k, ← with_type w) (f.steps p (struct_types w))

      pub unpack_then : UnpacksFields l d.type_args a x b r → StepsTo (look (type_fields_signature w.struct) >>= (λ ts. push_each ok ts)) a x b r
      unfolding unpack_fields
      unpack_then f = let (p, k) = fields_some i in rw k (f.steps p (struct_types w))

  -- the operand is compared with the struct's type
  module _ {a : List ℕ} {x : ℕ} (k : Unit {0} → Step) where
    module _ {o : Entry} (top : TopOf a x (Ok o)) {v : Bool} (f : StructIs a o.start o.len d.def.handle.0 d.type_args v) where
      struct_test : {t : SignatureToken} {y : Bool} → v ≡ y → Here a o.start o.len t → same t (struct_type w.struct) ≡ y
      struct_test {t} j h = ap (same t) (sym (with_type w)) ∙ sym (f.is (span h) (struct_types w)) ∙ j

      pub struct_popped : {b : List ℕ} {r : Stepped} → v ≡ true → StepsTo (k tt) a o.start b r → StepsTo (pop_expecting (struct_type w.struct) UNPACK_TYPE_MISMATCH_ERROR >>= k) a x b r
      unfolding pop_expecting
      struct_popped j g = nested pop _ k (pop_then top (λ t h. check_then _ k (struct_test j h) g))

      pub struct_other : v ≡ false → StepsTo (pop_expecting (struct_type w.struct) UNPACK_TYPE_MISMATCH_ERROR >>= k) a x a (Err UNPACK_TYPE_MISMATCH_ERROR)
      unfolding pop_expecting
      struct_other j = nested pop _ k (pop_then top (λ t h. check_bad k (struct_test j h)))

    pub struct_none : {y : StatusCode} → TopOf a x (Err y) → StepsTo (pop_expecting (struct_type w.struct) UNPACK_TYPE_MISMATCH_ERROR >>= k) a x a (Err y)
    unfolding pop_expecting
    struct_none top = nested pop _ k (pop_none top _)

-- ── every field instantiated ──

module _ {fields list : SignatureView} {bytes places : List ℕ} (d : PlacedList list.types.bytes.now list.types.at list.types.count bytes places) where
  -- one is not
  each_bad : {y : StatusCode} → InstantiatesEach fields bytes places (Err y) → (p : TypesIn fields) (q : TypesIn list) → instantiate_each p.types q.types ≡ err y
  each_bad {y} i p q = go (instantiate_each p.types q.types) (i.is p (arguments_of q d))
    where
      go : (x : Result Signature) → Err y ≡ instantiates_of x → x ≡ err y
      go (ok us) h = absurd cc
      go (err z) h = cc

  -- all are
  each_made : InstantiatesEach fields bytes places (Ok tt) → (p : TypesIn fields) (q : TypesIn list) → (us : Signature) × (instantiate_each p.types q.types ≡ ok us)
  each_made i p q = go (instantiate_each p.types q.types) (i.is p (arguments_of q d))
    where
      go : (x : Result Signature) → Ok tt ≡ instantiates_of x → (us : Signature) × (x ≡ ok us)
      go (ok us) h = (us, refl)
      go (err y) h = absurd cc

  module _ {a : List ℕ} {w : ℕ} where
    pub pack_refused : {h : ℕ} {y : StatusCode} → InstantiatesEach fields bytes places (Err y) → PacksFields h fields list a w a (Err y)
    unfolding pack_fields
    pack_refused i = record { steps = λ p q. look_bad _ (each_bad i p q) }

    pub unpack_refused : {y : StatusCode} → InstantiatesEach fields bytes places (Err y) → UnpacksFields fields list a w a (Err y)
    unfolding unpack_fields
    unpack_refused i = record { steps = λ p q. look_bad _ (each_bad i p q) }

    module _ (i : InstantiatesEach fields bytes places (Ok tt)) where
      -- the operands are the fields, or one of them is not
      module _ (k : Arguments bytes places) {r : Stepped} (f : PopsEach (λ t. instantiate t k.subst) fields PACK_TYPE_MISMATCH_ERROR a w r) where
        popped : (p : TypesIn fields) (q : TypesIn list) {us : Signature} → instantiate_each p.types q.types ≡ ok us → StepsTo (pop_each PACK_TYPE_MISMATCH_ERROR ok (reverse us)) a w a r
        popped p q m = pops_fields p q.types m (rw (placed_types q d k) at f)

        pub pack_bad : {h : ℕ} {y : StatusCode} → r ≡ Err y → PacksFields h fields list a w a (Err y)
        unfolding pack_fields
        pack_bad e = record { steps = λ p q. let (us, m) = each_made i p q in look_then _ m (and_bad (popped p q m) _ e) }

        pub pack_made : {h v : ℕ} {b : List ℕ} {y : Stepped} → r ≡ Ok v → PushesStruct h list a v b y → PacksFields h fields list a w b y
        unfolding pack_fields
        pack_made e g = record { steps = λ p q. let (us, m) = each_made i p q in look_then _ m (and_then (popped p q m) _ e (g.steps q)) }

      pub unpack_made : {b : List ℕ} {x : Stepped} → PushesEach fields bytes places a w b x → UnpacksFields fields list a w b x
      unfolding unpack_fields
      unpack_made f = record { steps = λ p q. let (us, m) = each_made i p q in look_then _ m (pushes_fields p (arguments_of q d) m f) }
