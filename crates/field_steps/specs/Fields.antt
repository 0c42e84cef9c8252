-- A field's declared type: the end of the types before it is where it stands.
use Rattle.std.specs.Prelude.{◌≡◌, List, [], ◌∷◌, ◌++◌, ℕ, zero, suc, Ok, Err, ◌≤◌, ◌<◌, length}
use Rattle.std.proofs.Math.Path.{refl, ap}
use Rattle.std.proofs.Common.{sym, ◌∙◌, append_assoc, arith}
use Rattle.status.specs.declared.StatusCode.TheVariants.{OUT_OF_TABLE, BORROWFIELD_BAD_FIELD_ERROR}
use Rattle.definitions.specs.Result.{ok, err, ◌>>?◌, at as nth}
use Rattle.definitions.specs.SignatureToken.{SignatureToken, SignatureTokens, Signature, []ᵗ, ◌∷ᵗ◌, arguments, count, encode, encode_all}
use Rattle.definitions.specs.CompiledUnit as defs
use Rattle.definitions.specs.TypeSafety.{declared_fields}
use Rattle.definitions.specs.Places.{At, TypeAt, TypesAt, EndOfTypes}
use Rattle.theorems.specs.AtLaws.{at_front, at_back}
use Rattle.record_views.specs.declared.Fields.TheVariants as fields
use Rattle.signature_token.specs.declared.SignatureView.{SignatureView}
use Rattle.signature_token.specs.declared.TypeRef.{TypeRef}
use Rattle.record_views.specs.Reread.{types_in}
use Rattle.record_views.specs.Records.{ListIs, FieldsAre}
use Rattle.field_steps.specs.Borrows.{OwnerAt, FieldAt, field_of}
use Rattle.field_steps.specs.declared.Owner.{Owner}

-- ── a type of a list ──

-- type i of ts, by the bytes of those before it
record Nth (ts : Signature) (i : ℕ) : Type 0 where
  before : SignatureTokens
  counted : count before ≡ i
  type : SignatureToken
  is : nth ts i ≡ ok type
  rest : List ℕ
  bytes : encode_all (arguments ts) ≡ encode_all before ++ (encode type ++ rest)

nth_type : (ts : Signature) (i : ℕ) → i < length ts → Nth ts i
unfolding nth count arguments encode_all
nth_type [] i h = absurd (omega arith)
nth_type (t ∷ ts) zero h = record { before = []ᵗ; counted = refl; type = t; is = refl; rest = encode_all (arguments ts); bytes = refl }
nth_type (t ∷ ts) (suc i) h =
    let n = nth_type ts i (omega arith) in
    record {
      before = t ∷ᵗ n.before;
      counted = ap suc n.counted;
      type = n.type;
      is = n.is;
      rest = n.rest;
      bytes = ap (λ (bs : List ℕ). encode t ++ bs) n.bytes ∙ sym (append_assoc (encode t) (encode_all n.before) (encode n.type ++ n.rest));
    }

nth_past : (ts : Signature) (i : ℕ) → length ts ≤ i → nth ts i ≡ err OUT_OF_TABLE
unfolding nth
nth_past [] i h = refl
nth_past (t ∷ ts) zero h = absurd (omega arith)
nth_past (t ∷ ts) (suc i) h = nth_past ts i (omega arith)

module _ {ts : Signature} {list : SignatureView} (k : ListIs ts list) {i : ℕ} (h : i < list.types.count) where
  here : Nth ts i
  here = nth_type ts i (omega (arith, k.counted))

  whole : At list.types.bytes.now list.types.at (encode_all here.before ++ (encode here.type ++ here.rest))
  whole = rw (← here.bytes) k.stands

  -- the types before it
  unfoldable first_types : TypesAt list.types.bytes.now list.types.at i
  first_types = record { types = here.before; counted = here.counted; stands = at_front (encode_all here.before) (encode here.type ++ here.rest) whole }

  -- it stands where they end
  nth_stands : {e : ℕ} → EndOfTypes list.types.bytes.now list.types.at i e → At list.types.bytes.now e (encode here.type)
  unfolding first_types
  nth_stands f = rw (f first_types) (at_front (encode here.type) here.rest (at_back (encode_all here.before) (encode here.type ++ here.rest) whole))

-- those before type i of a list, and where it stands
module _ (list : SignatureView) {i : ℕ} (h : i < list.types.count) where
  pub types_before : TypesAt list.types.bytes.now list.types.at i
  types_before = first_types (types_in list).are h

  pub type_behind : {p : ℕ} → EndOfTypes list.types.bytes.now list.types.at i p → TypeAt list.types.bytes.now p
  type_behind f = record { type = (here (types_in list).are h).type; stands = nth_stands (types_in list).are h f }

-- ── the field of an owner ──

module _ {r : Owner} where
  pub no_fields : r.def.fields ≡ fields.Native → FieldAt r (Err BORROWFIELD_BAD_FIELD_ERROR)
  unfolding field_of ◌>>?◌
  no_fields e = record { is = λ o. record { is = rw (native o.owner.def.field_information (rw e at o.are.def.fields)) refl } }
    where
      native : (x : defs.StructFieldInformation) → FieldsAre x fields.Native → x ≡ defs.Native
      native defs.Native k = refl
      native (defs.Declared ts) k = absurd k

  module _ {list : SignatureView} (e : r.def.fields ≡ fields.Declared list) {i : ℕ} (w : i ≡ r.field) where
    -- the fields that are declared, and the one that is asked for
    declared : (o : OwnerAt r) → (ts : Signature) × (field_of o.owner ≡ nth ts i) × ListIs ts list
    unfolding field_of ◌>>?◌
    declared o = go o.owner.def.field_information (rw e at o.are.def.fields)
      where
        go :
            (x : defs.StructFieldInformation) → FieldsAre x (fields.Declared list) →
            (ts : Signature) × ((declared_fields BORROWFIELD_BAD_FIELD_ERROR x >>? λ ts. nth ts o.owner.field) ≡ nth ts i) × ListIs ts list
        go defs.Native k = absurd k
        go (defs.Declared ts) k = (ts, ap (nth ts) (sym (w ∙ o.are.field)), k)

    pub field_past : list.types.count ≤ i → FieldAt r (Err OUT_OF_TABLE)
    field_past h = record { is = λ o. let (ts, d, k) = declared o in record { is = rw (d, nth_past ts i (omega (arith, k.counted))) refl } }

    module _ (h : i < list.types.count) where
      pub field_found : {q : TypeRef} → q.bytes.now ≡ list.types.bytes.now → EndOfTypes list.types.bytes.now list.types.at i q.at → FieldAt r (Ok q)
      field_found {q} e f = record { is = λ o. let (ts, d, k) = declared o in record { is = rw (d, (here k h).is, e) (nth_stands k h f) } }
