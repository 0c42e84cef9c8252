-- What the steps keep of every type, where no type in the unit nests over 32 levels: that it nests within 64. No type that the unit makes
-- nests over 63.
use Rattle.std.specs.Prelude.{Bool, [], ◌∷◌, ◌≡◌, refl, ℕ, suc, ◌+◌, ◌-◌, ◌≤◌, ltb}
use Rattle.std.proofs.Math.Bool.{true, false, cond}
use Rattle.std.proofs.Math.Option.{Option, some, none}
use native.Mathlib.Omega.{arith}
use Rattle.std.proofs.Math.ListN.{length}
use Rattle.definitions.specs.Result.{Result, ok, at}
use Rattle.definitions.specs.SignatureToken.{SignatureToken, SignatureTokens, Signature, arguments, Bool', U8, U64, U128, Address, Signer, Vector, Struct, StructInstantiation, Reference, MutableReference, TypeParameter, []ᵗ, ◌∷ᵗ◌, depth, depth_all, Outer, reference, mutable_reference, vector, integer, other, outer}
use Rattle.definitions.specs.CompiledUnit.{CompiledUnit, Head, Module, Script, StructDefinition, in_module, signature_at, struct_def_at, constant_at, local_at, element_type_at}
use Rattle.definitions.specs.Substitution.{materialize_type, instantiate, instantiate_all, inner_of_outer, inner, mutable_inner_of_outer, mutable_inner, reference_to}
use Rattle.definitions.specs.TypeSafety.{struct_type}
use Rattle.theorems.specs.Lookups.{ok_same, never_ok, used, at_member}
use Rattle.theorems.specs.All.{All, none, more, all_member}
use Rattle.theorems.specs.Bounded.{NestsWithin, DefinitionNestsWithin, Bounded}
use Rattle.theorems.specs.Kept.{TypeArgs, without, named, Source, signature, field, Made, bool, u8, u64, u128, constant, local, element, struct, instantiated, Kept}

-- ── substitution ──

module _ (σ : Signature) (low : All (NestsWithin 32) σ) where
  leaf_depth : (t t' : SignatureToken) → ◌≡◌ {A = Result SignatureToken} (ok t) (ok t') → depth t ≡ 1 → suc (depth t') ≤ depth t + 32
  leaf_depth t t' e d = let k : t ≡ t' = ok_same refl e in let d' : depth t' ≡ 1 = rw (← k) d in omega arith

  mutual
    unfolding instantiate instantiate_all depth

    instantiate_depth : (t t' : SignatureToken) → instantiate t σ ≡ ok t' → suc (depth t') ≤ depth t + 32
    instantiate_depth Bool' t' e = leaf_depth _ t' e refl
    instantiate_depth U8 t' e = leaf_depth _ t' e refl
    instantiate_depth U64 t' e = leaf_depth _ t' e refl
    instantiate_depth U128 t' e = leaf_depth _ t' e refl
    instantiate_depth Address t' e = leaf_depth _ t' e refl
    instantiate_depth Signer t' e = leaf_depth _ t' e refl
    instantiate_depth (Struct h) t' e = leaf_depth _ t' e refl
    instantiate_depth (Vector t) t' e =
        let (a, p, q) = used _ _ e in let r = instantiate_depth t a p in let k : Vector a ≡ t' = ok_same refl q in rw (← k) (omega arith)
    instantiate_depth (Reference t) t' e =
        let (a, p, q) = used _ _ e in let r = instantiate_depth t a p in let k : Reference a ≡ t' = ok_same refl q in rw (← k) (omega arith)
    instantiate_depth (MutableReference t) t' e =
        let (a, p, q) = used _ _ e in let r = instantiate_depth t a p in let k : MutableReference a ≡ t' = ok_same refl q in rw (← k) (omega arith)
    instantiate_depth (StructInstantiation h ts) t' e =
        let (a, p, q) = used _ _ e in let r = instantiate_all_depth ts a p in let k : StructInstantiation h a ≡ t' = ok_same refl q in rw (← k) (omega arith)
    instantiate_depth (TypeParameter i) t' e = omega (arith, all_member low (at_member σ i t' e))

    instantiate_all_depth : (ts ts' : SignatureTokens) → instantiate_all ts σ ≡ ok ts' → suc (depth_all ts') ≤ depth_all ts + 32
    instantiate_all_depth []ᵗ ts' e = let k : []ᵗ ≡ ts' = ok_same refl e in rw (← k) (omega arith)
    instantiate_all_depth (t ∷ᵗ ts) ts' e =
        let (a, p, e₁) = used _ _ e in
        let (b, q, e₂) = used _ _ e₁ in
        let r = instantiate_depth t a p in
        let r' = instantiate_all_depth ts b q in
        let k : a ∷ᵗ b ≡ ts' = ok_same refl e₂ in
        rw (← k) (omega arith)

-- ── struct types and references ──

arguments_depth : (σ : Signature) → All (NestsWithin 32) σ → depth_all (arguments σ) ≤ 32
unfolding arguments depth
arguments_depth [] none = omega arith
arguments_depth (t ∷ σ) (more h hs) = omega (arith, arguments_depth σ hs)

materialize_depth : (h : ℕ) (σ : Signature) → All (NestsWithin 32) σ → depth (materialize_type h σ) ≤ 33
unfolding materialize_type depth
materialize_depth h [] low = omega arith
materialize_depth h (t ∷ σ) low = omega (arith, arguments_depth (t ∷ σ) low)

reference_depth : (mut : Bool) (t : SignatureToken) → depth (reference_to mut t) ≡ suc (depth t)
unfolding reference_to depth
reference_depth true t = refl
reference_depth false t = refl

-- what stands under the outermost constructor
abbrev Under : Outer → ℕ → Type 0
Under (reference t) d = suc (depth t) ≡ d
Under (mutable_reference t) d = suc (depth t) ≡ d
Under (vector t) d = suc (depth t) ≡ d
Under integer d = Unit {0}
Under other d = Unit {0}

outer_depth : (t : SignatureToken) → Under (outer t) (depth t)
unfolding outer depth
outer_depth Bool' = tt
outer_depth U8 = tt
outer_depth U64 = tt
outer_depth U128 = tt
outer_depth Address = tt
outer_depth Signer = tt
outer_depth (Vector t) = refl
outer_depth (Struct h) = tt
outer_depth (StructInstantiation h ts) = tt
outer_depth (Reference t) = refl
outer_depth (MutableReference t) = refl
outer_depth (TypeParameter i) = tt

never_some : {A P : Type 0} {a : A} → ◌≡◌ {A = Option A} none (some a) → P
never_some e = let z : ◌≡◌ {A = ℕ} 0 1 = cc in absurd (omega arith)

inner_depth : (t t' : SignatureToken) → inner t ≡ some t' → suc (depth t') ≡ depth t
unfolding inner
inner_depth t t' e = go (outer t) (outer_depth t) e
  where
    go : (o : Outer) → Under o (depth t) → inner_of_outer o ≡ some t' → suc (depth t') ≡ depth t
    go (reference a) d e = let k : a ≡ t' = cc in rw (← k) d
    go (mutable_reference a) d e = let k : a ≡ t' = cc in rw (← k) d
    go (vector a) d e = never_some e
    go integer d e = never_some e
    go other d e = never_some e

mutable_inner_law : (t t' : SignatureToken) → mutable_inner t ≡ some t' → inner t ≡ some t'
unfolding inner mutable_inner
mutable_inner_law t t' e = go (outer t) e
  where
    go : (o : Outer) → mutable_inner_of_outer o ≡ some t' → inner_of_outer o ≡ some t'
    go (reference a) e = never_some e
    go (mutable_reference a) e = e
    go (vector a) e = never_some e
    go integer e = never_some e
    go other e = never_some e

-- ── the types that a bounded unit makes ──

module _ (u : CompiledUnit) (b : Bounded u) where
  signature_nests : (i : ℕ) (ts : Signature) → signature_at u i ≡ ok ts → All (NestsWithin 32) ts
  unfolding signature_at
  signature_nests i ts e = all_member b.signatures (at_member _ i ts e)

  args_nest : (σ : Signature) → TypeArgs u σ → All (NestsWithin 32) σ
  args_nest _ without = none
  args_nest σ (named i e) = signature_nests i σ e

  definition_nests : (i : ℕ) (d : StructDefinition) → struct_def_at u i ≡ ok d → DefinitionNestsWithin 32 d
  unfolding struct_def_at in_module
  definition_nests i d e = go u.head e
    where
      go : (h : Head) → in_module h (at u.struct_defs i) ≡ ok d → DefinitionNestsWithin 32 d
      go Module e = all_member b.struct_defs (at_member _ i d e)
      go Script e = never_ok e

  source_nests : (t : SignatureToken) → Source u t → depth t ≤ 32
  source_nests t (signature i e m) = all_member (signature_nests i _ e) m
  source_nests t (field i e f m) = all_member (rw f at (definition_nests i _ e)) m

  local_nests : (i : ℕ) (t : SignatureToken) → local_at u i ≡ ok t → depth t ≤ 32
  unfolding local_at
  local_nests i t e = go (ltb i (length u.function.parameters)) e
    where
      go : (x : Bool) → cond x (at u.function.parameters i) (at u.function.locals (i - length u.function.parameters)) ≡ ok t → depth t ≤ 32
      go true e = all_member b.parameters (at_member _ _ t e)
      go false e = all_member b.locals (at_member _ _ t e)

  element_nests : (i : ℕ) (t : SignatureToken) → element_type_at u i ≡ ok t → depth t ≤ 32
  unfolding element_type_at
  element_nests i t e = let (ts, p, q) = used _ _ e in all_member (signature_nests i ts p) (at_member ts 0 t q)

  constant_nests : (i : ℕ) (t : SignatureToken) → constant_at u i ≡ ok t → depth t ≤ 32
  unfolding constant_at
  constant_nests i t e = all_member b.constants (at_member _ i t e)

  pub kept_nesting : Kept u (NestsWithin 64)
  unfolding depth struct_type
  kept_nesting = record {
    made = λ {t} m. omega (arith, made_nests t m);
    vector = λ {t} m. omega (arith, made_nests t m);
    reference = λ {t} mut m. omega (arith, made_nests t m, reference_depth mut t);
    referent = λ t t' h e. omega (arith, inner_depth t t' e);
    frozen = λ t t' h e. omega (arith, inner_depth t t' (mutable_inner_law t t' e));
  }
    where
      -- one level is left for a vector or a reference
      made_nests : (t : SignatureToken) → Made u t → depth t ≤ 63
      made_nests _ bool = omega arith
      made_nests _ u8 = omega arith
      made_nests _ u64 = omega arith
      made_nests _ u128 = omega arith
      made_nests t (constant i e) = omega (arith, constant_nests i t e)
      made_nests t (local i e) = omega (arith, local_nests i t e)
      made_nests t (element i e) = omega (arith, element_nests i t e)
      made_nests _ (struct {s} n) = omega (arith, materialize_depth s.def.struct_handle s.type_args (args_nest s.type_args n.args))
      made_nests t' (instantiated {σ} {t} a m e) = omega (arith, instantiate_depth σ (args_nest σ a) t t' e, source_nests t m)
