-- How a push comes of what is measured and then written: the laws of a type's bytes at the free end of the area, of the struct whose
-- arguments stand where a list says, and of a field's type with its parameters replaced.
use Rattle.std.specs.Prelude.{◌≡◌, Ok, Err, List, ◌∷◌, Bool, ℕ, ◌-◌, ◌≤◌, length, take, drop}
use Rattle.std.proofs.Common.{ap, sym, ◌∙◌, arith, length-take, length-drop}
use Rattle.status.specs.declared.StatusCode.{StatusCode}
use Rattle.definitions.specs.SignatureToken.{SignatureToken, encode, same}
use Rattle.definitions.specs.Substitution.{materialize_type, reference_to}
use Rattle.definitions.specs.Machine.{push}
use Rattle.definitions.specs.Places.{TypeAt, TypesAt}
use Rattle.theorems.specs.Bytes.{list_of_arguments}
use Rattle.record_views.specs.Records.{TypesIn}
use Rattle.record_views.specs.Reread.{types_at}
use Rattle.signature_token.specs.declared.SignatureView.{SignatureView}
use Rattle.signature_token.specs.Same.{Spans}
use Rattle.type_places.specs.Arguments.{Arguments}
use Rattle.substitution.specs.declared.Size.{Size}
use Rattle.substitution.specs.Filling.{Filling}
use Rattle.substitution.specs.Instantiate.{instantiated, not_instantiated}
use Rattle.substitution.specs.Size.{SizeAt, not_sized, capped, size_filling, size_long}
use Rattle.materialize_type.specs.declared.MaterializedType.{MaterializedType}
use Rattle.materialize_type.specs.Materialize.{materialized}
use Rattle.materialize_type.specs.Materialized.{type_of}
use Rattle.type_stack.specs.Stepping.{look_then, look_bad}
use Rattle.type_stack.specs.Pushing.{PushesTo}
use Rattle.type_stack.specs.Answers.{Stepped}
use Rattle.type_pushes.specs.References.{ReferenceCommand}
use Rattle.made_types.specs.Made.{StructIs, PushesStruct, PushesStructReference, PushesFieldReference}

-- the free end of an area
pub free_long : (a : List ℕ) (w : ℕ) → length (take (length a - w) (drop w a)) ≡ length a - w
free_long a w = simp (length-take, length-drop) (omega arith)

-- ── a struct ──

-- m was made of the types of the list
module _
    {list : SignatureView} (h : ℕ) (m : MaterializedType)
    (e : (q : TypesAt list.types.bytes.now list.types.at list.types.count) → type_of m ≡ materialized h q.types)
  where
    struct_made : (q : TypesIn list) → type_of m ≡ materialize_type h q.types
    struct_made q = e (types_at q) ∙ ap (materialize_type h) (list_of_arguments q.types)

    -- what was compared with it
    pub struct_same : {a : List ℕ} {x len : ℕ} {r : Bool} → ((p : Spans a x len) → r ≡ same p.type (type_of m)) → StructIs a x len h list r
    struct_same f = record { is = λ p q. f p ∙ ap (same p.type) (struct_made q) }

    module _ {a b : List ℕ} {w : ℕ} {r : Stepped} where
      -- its bytes are pushed, or those of a reference to it
      pub struct_pushed : PushesTo (encode (type_of m)) a w b r → PushesStruct h list a w b r
      struct_pushed k = record { steps = λ q. k.steps (materialize_type h q.types) (ap encode (sym (struct_made q))) }

      pub struct_reference_pushed : {mutable : Bool} {c : ℕ} → ReferenceCommand mutable c → PushesTo (c ∷ encode (type_of m)) a w b r → PushesStructReference mutable h list a w b r
      struct_reference_pushed {mutable} {c} i k = record {
        steps = λ q.
            let t = materialize_type h q.types in
            k.steps (reference_to mutable t) (i.is t ∙ ap (λ (u : SignatureToken). c ∷ encode u) (sym (struct_made q)));
      }

-- ── a field's type ──

module _ {s : List ℕ} {at : ℕ} {args places : List ℕ} where
  pub field_refused : {m : Bool} {a : List ℕ} {w : ℕ} {v : StatusCode} → SizeAt s at args places (Err v) → PushesFieldReference m s at args places a w a (Err v)
  field_refused {m} z = record {
    steps = λ p q. look_bad (λ t. push (reference_to m t)) (not_instantiated p.type q.subst (not_sized _ _ _ (z.is p q)));
  }

  module _ {size : Size} (z : SizeAt s at args places (Ok size)) where
    pub field_short : TypeAt s at → Arguments args places → size.len ≤ 65536
    field_short p q = omega (arith, size_long z p q)

    -- the bytes of the type that is made, under a reference's command, are pushed
    pub field_pushed :
        {m : Bool} {c : ℕ} {a b : List ℕ} {w : ℕ} {r : Stepped} → ReferenceCommand m c →
        ((f : Filling s at args places) → size.len ≡ capped (length f.bytes) → PushesTo (c ∷ f.bytes) a w b r) → PushesFieldReference m s at args places a w b r
    field_pushed {m} {c} i k = record {
      steps = λ p q.
          let f = size_filling z p q in
          let u = instantiated p.type q.subst f.is in
          look_then (λ t. push (reference_to m t)) u.here ((k f (size_long z p q)).steps (reference_to m u.type) (i.is u.type ∙ ap (λ (bs : List ℕ). c ∷ bs) (sym u.is)));
    }

-- what is asked of a field's type, and what is answered that has none
pub ruleset field_laws = (field_refused, field_short)
