-- What a look-up refuses with: one predicate on results, and a law for each way that a result is made. The laws of the steps cite them
-- at each `look`.
use Rattle.std.specs.Prelude.{Bool, true, false, cond, ◌≡◌, refl, ℕ, zero, suc, T, ltb, eqb, length}
use mathlib.Core.List.{List, [], ◌∷◌, Memᴰ}
use Rattle.std.proofs.Math.Option.{Option, some, none}
use Rattle.std.proofs.Common.{ap, arith}
use Rattle.std.proofs.Math.ListN.{get_elem?}
use Rattle.status.specs.declared.StatusCode.{StatusCode}
use Rattle.status.specs.declared.StatusCode.TheVariants.{OUT_OF_TABLE, PACK_TYPE_MISMATCH_ERROR}
use Rattle.status.specs.Verdict.{status_number}
use Rattle.definitions.specs.Result.{Result, ok, err, ◌>>?◌, or_err, at}
use Rattle.definitions.specs.AbilitySet.{AbilitySet, polymorphic_abilities}
use Rattle.definitions.specs.SignatureToken.{SignatureToken, SignatureTokens, Signature, Bool', U8, U64, U128, Address, Signer, Vector, Struct, StructInstantiation, Reference, MutableReference, TypeParameter, []ᵗ, ◌∷ᵗ◌}
use Rattle.definitions.specs.CompiledUnit.{CompiledUnit, Head, Module, Script, StructHandle, StructFieldInformation, Native, Declared, StructWith, in_module, signature_at, function_handle_at, function_instantiation_at, struct_def_at, struct_instantiation_at, field_handle_at, field_instantiation_at, constant_at, local_at, element_type_at, plain_struct, generic_struct}
use Rattle.definitions.specs.Abilities.{abilities_in, abilities_of_all, abilities}
use Rattle.definitions.specs.Substitution.{instantiate, instantiate_all, instantiate_each}
use Rattle.definitions.specs.TypeSafety.{declared_fields, type_fields_signature}
use Rattle.theorems.specs.Numbers.{table_refusal, look_refusal, table_look}

-- the result, where it is refused, is refused with a status that is allowed
pub record RefusesOnly (Allowed : StatusCode → Type 0) {A : Type 0} (r : Result A) : Type 0 where
  pub refuses : (w : StatusCode) → r ≡ err w → Allowed w

-- it is refused with one of some numbers
abbrev pub RefusesAmong : (ℕ → Bool) → {A : Type 0} → Result A → Type 0
RefusesAmong allowed r = RefusesOnly (λ w. T (allowed (status_number w))) r

-- a look-up in the unit's tables
abbrev pub Tabled : {A : Type 0} → Result A → Type 0
Tabled r = RefusesAmong table_refusal r

-- a look-up of a step
abbrev pub LooksUp : {A : Type 0} → Result A → Type 0
LooksUp r = RefusesAmong look_refusal r

-- ── results that were used ──

pub never_ok : {A P : Type 0} {w : StatusCode} {a : A} → ◌≡◌ {A = Result A} (err w) (ok a) → P
never_ok e = let z : ◌≡◌ {A = ℕ} 0 1 = cc in absurd (omega arith)

never_err : {A P : Type 0} {w : StatusCode} {a : A} → ◌≡◌ {A = Result A} (ok a) (err w) → P
never_err e = let z : ◌≡◌ {A = ℕ} 0 1 = cc in absurd (omega arith)

pub ok_same : {A : Type 0} {r : Result A} {a b : A} → r ≡ ok a → r ≡ ok b → a ≡ b
ok_same p q = cc

-- a result that is used was found
pub used : {A B : Type 0} {b : B} (r : Result A) (f : A → Result B) → (r >>? f) ≡ ok b → (a : A) × (r ≡ ok a) × (f a ≡ ok b)
unfolding ◌>>?◌
used (ok a) f e = (a, refl, e)
used (err w) f e = never_ok e

pub or_some : {A : Type 0} (w : StatusCode) (o : Option A) (a : A) → or_err w o ≡ ok a → o ≡ some a
or_some w none a e = never_ok e
or_some w (some b) a e = ap some (ok_same refl e)

pub declared_is : (w : StatusCode) (i : StructFieldInformation) (ts : List SignatureToken) → declared_fields w i ≡ ok ts → i ≡ Declared ts
declared_is w Native ts e = never_ok e
declared_is w (Declared fields) ts e = ap Declared (ok_same refl e)

-- what stands at a place of a list is a member
pub at_member : {A : Type 0} (l : List A) (i : ℕ) (a : A) → at l i ≡ ok a → Memᴰ a l
unfolding at
at_member [] i a e = never_ok e
at_member (b ∷ l) zero a e = Memᴰ.head (ok_same e refl)
at_member (b ∷ l) (suc i) a e = Memᴰ.tail (at_member l i a e)

-- ── one law for each way that a result is made ──

pub only_ok : {Allowed : StatusCode → Type 0} {A : Type 0} {a : A} → RefusesOnly Allowed (ok a)
only_ok = record { refuses = λ w e. never_err e }

pub only_err : {Allowed : StatusCode → Type 0} {A : Type 0} {w : StatusCode} → Allowed w → RefusesOnly Allowed {A = A} (err w)
only_err {Allowed} {A} {w} t = record { refuses = λ v e. let k : w ≡ v = cc in rw (← k) t }

pub only_then : {Allowed : StatusCode → Type 0} {A B : Type 0} (r : Result A) {f : A → Result B} →
    RefusesOnly Allowed r → ((a : A) → RefusesOnly Allowed (f a)) → RefusesOnly Allowed (r >>? f)
unfolding ◌>>?◌
only_then (ok a) h k = k a
only_then (err w) h k = only_err (h.refuses w refl)

pub only_or : {Allowed : StatusCode → Type 0} {A : Type 0} (w : StatusCode) (o : Option A) → Allowed w → RefusesOnly Allowed (or_err w o)
only_or w none t = only_err t
only_or w (some a) t = only_ok

pub only_at : {Allowed : StatusCode → Type 0} {A : Type 0} (l : List A) (i : ℕ) → Allowed OUT_OF_TABLE → RefusesOnly Allowed (at l i)
unfolding at
only_at l i t = only_or _ (get_elem? l i) t

pub only_declared : {Allowed : StatusCode → Type 0} (w : StatusCode) (i : StructFieldInformation) → Allowed w → RefusesOnly Allowed (declared_fields w i)
only_declared w Native t = only_err t
only_declared w (Declared fields) t = only_ok

only_cond : {Allowed : StatusCode → Type 0} {A : Type 0} (b : Bool) {r r' : Result A} → RefusesOnly Allowed r → RefusesOnly Allowed r' → RefusesOnly Allowed (cond b r r')
only_cond true h h' = h
only_cond false h h' = h'

pub tabled : {A : Type 0} {r : Result A} → Tabled r → LooksUp r
tabled h = record { refuses = λ w e. table_look (status_number w) (h.refuses w e) }

-- ── the look-ups ──

only_module : {A : Type 0} (h : Head) (l : List A) (i : ℕ) → Tabled (in_module h (at l i))
unfolding in_module
only_module Module l i = only_at l i tt
only_module Script l i = only_err tt

module _ (u : CompiledUnit) where
  pub only_signature : (i : ℕ) → Tabled (signature_at u i)
  unfolding signature_at
  only_signature i = only_at _ i tt

  pub only_function_handle : (i : ℕ) → Tabled (function_handle_at u i)
  unfolding function_handle_at
  only_function_handle i = only_at _ i tt

  pub only_function_instantiation : (i : ℕ) → Tabled (function_instantiation_at u i)
  unfolding function_instantiation_at
  only_function_instantiation i = only_at _ i tt

  pub only_struct_def : (i : ℕ) → Tabled (struct_def_at u i)
  unfolding struct_def_at
  only_struct_def i = only_module _ _ i

  pub only_struct_instantiation : (i : ℕ) → Tabled (struct_instantiation_at u i)
  unfolding struct_instantiation_at
  only_struct_instantiation i = only_module _ _ i

  pub only_field_handle : (i : ℕ) → Tabled (field_handle_at u i)
  unfolding field_handle_at
  only_field_handle i = only_module _ _ i

  pub only_field_instantiation : (i : ℕ) → Tabled (field_instantiation_at u i)
  unfolding field_instantiation_at
  only_field_instantiation i = only_module _ _ i

  pub only_constant : (i : ℕ) → Tabled (constant_at u i)
  unfolding constant_at
  only_constant i = only_at _ i tt

  pub only_local : (i : ℕ) → Tabled (local_at u i)
  unfolding local_at
  only_local i = only_cond (ltb i (length u.function.parameters)) (only_at _ _ tt) (only_at _ _ tt)

  pub only_element_type : (i : ℕ) → Tabled (element_type_at u i)
  unfolding element_type_at
  only_element_type i = only_then _ (only_signature i) λ s. only_at s 0 tt

  pub only_plain : (i : ℕ) → Tabled (plain_struct u i)
  unfolding plain_struct
  only_plain i = only_then _ (only_struct_def i) λ d. only_ok

  pub only_generic : (i : ℕ) → Tabled (generic_struct u i)
  unfolding generic_struct
  only_generic i = only_then _ (only_struct_instantiation i) λ n. only_then _ (only_struct_def _) λ d. only_then _ (only_signature _) λ s. only_ok

-- ── abilities and substitution ──

only_polymorphic : (a : AbilitySet) (ps : List Bool) (sets : List AbilitySet) → LooksUp (polymorphic_abilities a ps sets)
unfolding polymorphic_abilities
only_polymorphic a ps sets = only_cond (eqb (length ps) (length sets)) only_ok (only_err tt)

module _ (handles : List StructHandle) (constraints : List AbilitySet) where
  mutual
    unfolding abilities_in abilities_of_all

    only_abilities_in : (t : SignatureToken) → LooksUp (abilities_in handles constraints t)
    only_abilities_in Bool' = only_ok
    only_abilities_in U8 = only_ok
    only_abilities_in U64 = only_ok
    only_abilities_in U128 = only_ok
    only_abilities_in Address = only_ok
    only_abilities_in Signer = only_ok
    only_abilities_in (Vector t) = only_then _ (only_abilities_in t) λ a. only_polymorphic _ _ _
    only_abilities_in (Struct h) = only_then _ (only_at handles h tt) λ sh. only_ok
    only_abilities_in (StructInstantiation h ts) =
        only_then _ (only_at handles h tt) λ sh. only_then _ (only_abilities_of_all ts) λ sets. only_polymorphic _ _ _
    only_abilities_in (Reference t) = only_ok
    only_abilities_in (MutableReference t) = only_ok
    only_abilities_in (TypeParameter i) = only_at constraints i tt

    only_abilities_of_all : (ts : SignatureTokens) → LooksUp (abilities_of_all handles constraints ts)
    only_abilities_of_all []ᵗ = only_ok
    only_abilities_of_all (t ∷ᵗ ts) = only_then _ (only_abilities_in t) λ a. only_then _ (only_abilities_of_all ts) λ sets. only_ok

pub only_abilities : (u : CompiledUnit) (t : SignatureToken) → LooksUp (abilities u t)
unfolding abilities
only_abilities u t = only_abilities_in _ _ t

-- a parameter past the arguments is the only way that a type is not instantiated
module _ (σ : Signature) {Allowed : StatusCode → Type 0} (past : Allowed OUT_OF_TABLE) where
  mutual
    unfolding instantiate instantiate_all

    pub only_instantiate : (t : SignatureToken) → RefusesOnly Allowed (instantiate t σ)
    only_instantiate Bool' = only_ok
    only_instantiate U8 = only_ok
    only_instantiate U64 = only_ok
    only_instantiate U128 = only_ok
    only_instantiate Address = only_ok
    only_instantiate Signer = only_ok
    only_instantiate (Vector t) = only_then _ (only_instantiate t) λ a. only_ok
    only_instantiate (Struct h) = only_ok
    only_instantiate (StructInstantiation h ts) = only_then _ (only_instantiate_all ts) λ a. only_ok
    only_instantiate (Reference t) = only_then _ (only_instantiate t) λ a. only_ok
    only_instantiate (MutableReference t) = only_then _ (only_instantiate t) λ a. only_ok
    only_instantiate (TypeParameter i) = only_at σ i past

    only_instantiate_all : (ts : SignatureTokens) → RefusesOnly Allowed (instantiate_all ts σ)
    only_instantiate_all []ᵗ = only_ok
    only_instantiate_all (t ∷ᵗ ts) = only_then _ (only_instantiate t) λ a. only_then _ (only_instantiate_all ts) λ b. only_ok

  pub only_instantiate_each : (ts : Signature) → RefusesOnly Allowed (instantiate_each ts σ)
  unfolding instantiate_each
  only_instantiate_each [] = only_ok
  only_instantiate_each (t ∷ ts) = only_then _ (only_instantiate t) λ a. only_then _ (only_instantiate_each ts) λ b. only_ok

pub only_fields : (s : StructWith) → LooksUp (type_fields_signature s)
unfolding type_fields_signature
only_fields s = only_then _ (only_declared PACK_TYPE_MISMATCH_ERROR s.def.field_information tt) λ fields. only_instantiate_each s.type_args tt fields
