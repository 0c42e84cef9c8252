-- What a property of types must have, to be had by every type that the steps push: it holds of the types that the unit makes, of their
-- vectors and references, and passes from a reference to what it refers to. The steps are then sound for it (Steps.antt of proofs/).
use Rattle.std.specs.Prelude.{Bool, ℕ}
use mathlib.Core.List.{[], ◌∷◌, Memᴰ}
use Rattle.std.proofs.Math.Option.{some}
use Rattle.std.proofs.Math.Path.{◌≡◌, refl}
use Rattle.definitions.specs.Result.{ok}
use Rattle.definitions.specs.SignatureToken.{SignatureToken, Signature, Bool', U8, U64, U128, Vector, Reference}
use Rattle.definitions.specs.CompiledUnit.{CompiledUnit, StructDefinition, Declared, StructWith, signature_at, struct_def_at, constant_at, local_at, element_type_at, plain_struct, generic_struct}
use Rattle.definitions.specs.Substitution.{instantiate, instantiate_each, inner, mutable_inner, reference_to}
use Rattle.definitions.specs.TypeSafety.{struct_type, type_fields_signature}
use Rattle.theorems.specs.Lookups.{ok_same, used, declared_is}
use Rattle.theorems.specs.All.{All, none, more}

-- the type arguments of an instruction: none, or a signature of the unit
pub data TypeArgs (u : CompiledUnit) : Signature → Type 0 where
  without : TypeArgs u []
  named : (i : ℕ) {σ : Signature} → signature_at u i ≡ ok σ → TypeArgs u σ

-- a struct definition of the unit, with such arguments
pub record Named (u : CompiledUnit) (s : StructWith) : Type 0 where
  pub index : ℕ
  pub defined : struct_def_at u index ≡ ok s.def
  pub args : TypeArgs u s.type_args

-- a type that is instantiated: of a signature, or of a field
pub data Source (u : CompiledUnit) : SignatureToken → Type 0 where
  signature : (i : ℕ) {ts : Signature} {t : SignatureToken} → signature_at u i ≡ ok ts → Memᴰ t ts → Source u t
  field : (i : ℕ) {d : StructDefinition} {ts : Signature} {t : SignatureToken} →
      struct_def_at u i ≡ ok d → d.field_information ≡ Declared ts → Memᴰ t ts → Source u t

-- a type that the unit makes
pub data Made (u : CompiledUnit) : SignatureToken → Type 0 where
  bool : Made u Bool'
  u8 : Made u U8
  u64 : Made u U64
  u128 : Made u U128
  constant : (i : ℕ) {t : SignatureToken} → constant_at u i ≡ ok t → Made u t
  local : (i : ℕ) {t : SignatureToken} → local_at u i ≡ ok t → Made u t
  element : (i : ℕ) {t : SignatureToken} → element_type_at u i ≡ ok t → Made u t
  struct : {s : StructWith} → Named u s → Made u (struct_type s)
  instantiated : {σ : Signature} {t t' : SignatureToken} → TypeArgs u σ → Source u t → instantiate t σ ≡ ok t' → Made u t'

pub record Kept (u : CompiledUnit) (I : SignatureToken → Type 0) : Type 0 where
  pub made : {t : SignatureToken} → Made u t → I t
  pub vector : {t : SignatureToken} → Made u t → I (Vector t)
  pub reference : {t : SignatureToken} (mut : Bool) → Made u t → I (reference_to mut t)
  pub referent : (t t' : SignatureToken) → I t → inner t ≡ some t' → I t'
  pub frozen : (t t' : SignatureToken) → I t → mutable_inner t ≡ some t' → I (Reference t')

-- ── structs that the steps look up, and their fields ──

module _ (u : CompiledUnit) where
  pub named_plain : (i : ℕ) (s : StructWith) → plain_struct u i ≡ ok s → Named u s
  unfolding plain_struct
  named_plain i s e =
      let (d, ed, k) = used _ _ e in
      let r : record { def = d; type_args = [] } ≡ s = ok_same refl k in
      rw (← r) (record { index = i; defined = ed; args = without })

  pub named_generic : (i : ℕ) (s : StructWith) → generic_struct u i ≡ ok s → Named u s
  unfolding generic_struct
  named_generic i s e =
      let (n, en, k) = used _ _ e in
      let (d, ed, k₁) = used _ _ k in
      let (σ, eσ, k₂) = used _ _ k₁ in
      let r : record { def = d; type_args = σ } ≡ s = ok_same refl k₂ in
      rw (← r) (record { index = n.def; defined = ed; args = named _ eσ })

  instantiated_each : {σ : Signature} → TypeArgs u σ → (ts ts' : Signature) → ((t : SignatureToken) → Memᴰ t ts → Source u t) →
      instantiate_each ts σ ≡ ok ts' → All (Made u) ts'
  unfolding instantiate_each
  instantiated_each a [] ts' h e = let k : ◌≡◌ {A = Signature} [] ts' = ok_same refl e in rw (← k) none
  instantiated_each a (t ∷ ts) ts' h e =
      let (t₁, p, e₁) = used _ _ e in
      let (ts₁, q, e₂) = used _ _ e₁ in
      let k : ◌≡◌ {A = Signature} (t₁ ∷ ts₁) ts' = ok_same refl e₂ in
      rw (← k) (more (instantiated a (h t (Memᴰ.head refl)) p) (instantiated_each a ts ts₁ (λ b m. h b (Memᴰ.tail m)) q))

  pub fields_made : (s : StructWith) → Named u s → (ts : Signature) → type_fields_signature s ≡ ok ts → All (Made u) ts
  unfolding type_fields_signature
  fields_made s n ts e =
      let (fs, p, q) = used _ _ e in
      instantiated_each n.args fs ts (λ t m. field _ n.defined (declared_is _ _ _ p) m) q
