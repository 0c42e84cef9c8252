-- The laws of the steps: each moves as many types as the stack effect says, keeps what is kept of every type, and is refused only with a
-- status that a step may have. One law for each definition of `verify_instr`, and `step_sound` over the 71 instructions.
use Rattle.std.specs.Prelude.{Bool, ◌≡◌, ℕ, T}
use Rattle.std.proofs.Math.Bool.{true, false}
use mathlib.Core.List.{[], ◌∷◌, reverse}
use Rattle.std.proofs.Math.Path.{refl}
use Rattle.std.proofs.Common.{ap, ◌∙◌, arith}
use Rattle.std.proofs.Math.ListN.{length, length-reverse}
use Rattle.status.specs.declared.StatusCode.{StatusCode}
use Rattle.status.specs.declared.StatusCode.TheVariants.{BORROWFIELD_TYPE_MISMATCH_ERROR, BORROWFIELD_BAD_FIELD_ERROR, TYPE_MISMATCH, FREEZEREF_TYPE_MISMATCH_ERROR, READREF_TYPE_MISMATCH_ERROR, WRITEREF_NO_MUTABLE_REFERENCE_ERROR}
use Rattle.status.specs.Verdict.{status_number}
use Rattle.definitions.specs.Result.{Result, ok, ◌>>?◌}
use Rattle.definitions.specs.SignatureToken.{SignatureToken, Signature, U64}
use Rattle.definitions.specs.Bytecode.{Bytecode, Pop, Ret, BrTrue, BrFalse, Branch, LdU8, LdU64, LdU128, CastU8, CastU64, CastU128, LdConst, LdTrue, LdFalse, CopyLoc, MoveLoc, StLoc, Call, CallGeneric, Pack, PackGeneric, Unpack, UnpackGeneric, ReadRef, WriteRef, FreezeRef, MutBorrowLoc, ImmBorrowLoc, MutBorrowField, MutBorrowFieldGeneric, ImmBorrowField, ImmBorrowFieldGeneric, MutBorrowGlobal, MutBorrowGlobalGeneric, ImmBorrowGlobal, ImmBorrowGlobalGeneric, Add, Sub, Mul, Mod, Div, BitOr, BitAnd, Xor, Or, And, Not, Eq, Neq, Lt, Gt, Le, Ge, Abort, Nop, Exists, ExistsGeneric, MoveFrom, MoveFromGeneric, MoveTo, MoveToGeneric, Shl, Shr, VecPack, VecLen, VecImmBorrow, VecMutBorrow, VecPushBack, VecPopBack, VecUnpack, VecSwap}
use Rattle.definitions.specs.CompiledUnit.{CompiledUnit, FunctionHandle, StructFieldInformation, Declared, StructWith, signature_at, function_handle_at, struct_def_at, struct_instantiation_at, plain_struct, generic_struct}
use Rattle.definitions.specs.Substitution.{instantiate_each, inner, mutable_inner, get_vector_element_type}
use Rattle.definitions.specs.Machine.{Step}
use Rattle.definitions.specs.StackUsage.{◌⇒◌, instruction_effect, call_effect, field_count, field_count_at, field_count_of_instantiation}
use Rattle.definitions.specs.TypeSafety.{struct_type, type_fields_signature, pop_expecting, borrow_field, borrow_field_generic, borrow_loc, borrow_global, borrow_global_generic, call, function_call, function_call_generic, pack, unpack, needs_key, exists, move_from, move_to, element_is, borrow_vector_element, pop_step, st_loc, ret_step, freeze_ref, ld_const, copy_loc, move_loc, read_ref, write_ref, cast, arithmetic, shift, logical, negation, equality, comparison, vec_pack, vec_len, vec_push_back, vec_pop_back, vec_unpack, vec_swap, verify_instr}
use Rattle.theorems.specs.Numbers.{look_refusal}
use Rattle.theorems.specs.Lookups.{Tabled, tabled, ok_same, used, or_some, declared_is, at_member, only_ok, only_or, only_at, only_then, only_declared, only_signature, only_function_handle, only_function_instantiation, only_struct_def, only_struct_instantiation, only_field_handle, only_field_instantiation, only_constant, only_local, only_element_type, only_plain, only_generic, only_abilities, only_instantiate, only_fields}
use Rattle.theorems.specs.All.{all_member}
use Rattle.theorems.specs.Programs.{Sound, then, looking, checking, nothing, checked, pushing, counted, sound_push_each, sound_push_n}
use Rattle.theorems.proofs.Programs.{popping, sound_pop_each, sound_pop_n}
use Rattle.theorems.specs.Effects.{WithinEffect, fixed, shared, apart, chosen}
use Rattle.theorems.specs.Kept.{TypeArgs, without, named, Named, signature, field, Made, bool, u8, u64, u128, constant, local, element, struct, instantiated, Kept, named_plain, named_generic, fields_made}

-- ── counts that are looked up ──

instantiated_length : (σ ts ts' : Signature) → instantiate_each ts σ ≡ ok ts' → length ts' ≡ length ts
unfolding instantiate_each
instantiated_length σ [] ts' e = ap length (ok_same e refl)
instantiated_length σ (t ∷ ts) ts' e =
    let (t₁, _, e₁) = used _ _ e in
    let (ts₁, k, e₂) = used _ _ e₁ in
    let s : ts' ≡ t₁ ∷ ts₁ = ok_same e₂ refl in
    rw s (omega (arith, instantiated_length σ ts ts₁ k))

fields_length : (s : StructWith) (ts : Signature) → type_fields_signature s ≡ ok ts → length ts ≡ field_count s.def.field_information
unfolding type_fields_signature
fields_length s ts e =
    let (fs, p, q) = used _ _ e in
    instantiated_length s.type_args fs ts q ∙ declared_length s.def.field_information fs (declared_is _ _ _ p)
  where
    declared_length : (i : StructFieldInformation) (fs : Signature) → i ≡ Declared fs → length fs ≡ field_count i
    declared_length i fs e = rw e

abbrev count_of : StructWith → Result ℕ
count_of s = ok (field_count s.def.field_information)

module _ (u : CompiledUnit) where
  plain_count : (i : ℕ) (s : StructWith) → plain_struct u i ≡ ok s → field_count_at u i ≡ count_of s
  unfolding plain_struct field_count_at ◌>>?◌
  plain_count i s e =
      let (d, ed, k) = used (struct_def_at u i) _ e in
      let r : record { def = d; type_args = [] } ≡ s = ok_same refl k in
      rw ed (ap count_of r)

  generic_count : (i : ℕ) (s : StructWith) → generic_struct u i ≡ ok s → field_count_of_instantiation u i ≡ count_of s
  unfolding generic_struct field_count_of_instantiation field_count_at ◌>>?◌
  generic_count i s e =
      let (n, en, k) = used (struct_instantiation_at u i) _ e in
      let (d, ed, k₁) = used (struct_def_at u n.def) _ k in
      let (σ, eσ, k₂) = used (signature_at u n.type_parameters) _ k₁ in
      let r : record { def = d; type_args = σ } ≡ s = ok_same refl k₂ in
      rw (en, ed) (ap count_of r)

-- ── the steps ──

module _ (u : CompiledUnit) {I : SignatureToken → Type 0} (k : Kept u I) where
  abbrev S : ℕ → ℕ → Step → Type 0
  S p q m = Sound I (Unit {0}) p q m

  sound_pop_expecting : (t : SignatureToken) (w : StatusCode) → T (look_refusal (status_number w)) → S 1 0 (pop_expecting t w)
  unfolding pop_expecting
  sound_pop_expecting t w a = popping λ x i. checked _ _ a

  sound_borrow_field : (mut : Bool) (i : ℕ) {σ : Signature} → TypeArgs u σ → S 1 1 (borrow_field u mut i σ)
  unfolding borrow_field
  sound_borrow_field mut i {σ} args =
      popping λ x ix. checking _ _ tt λ _. looking (tabled (only_field_handle u _)) λ f _. looking (tabled (only_struct_def u _)) λ d ed.
      looking (only_or BORROWFIELD_TYPE_MISMATCH_ERROR (inner x) tt) λ r _. checking _ _ tt λ _.
      looking (only_declared BORROWFIELD_BAD_FIELD_ERROR d.field_information tt) λ fs efs. looking (only_at fs _ tt) λ t et.
      looking (only_instantiate σ tt t) λ t' et'.
      pushing _ (k.reference mut (instantiated args (field _ ed (declared_is _ _ _ efs) (at_member _ _ _ et)) et'))

  sound_borrow_field_generic : (mut : Bool) (i : ℕ) → S 1 1 (borrow_field_generic u mut i)
  unfolding borrow_field_generic
  sound_borrow_field_generic mut i =
      looking (tabled (only_field_instantiation u _)) λ n _. looking (tabled (only_signature u _)) λ σ eσ. sound_borrow_field mut _ (named _ eσ)

  sound_borrow_loc : (mut : Bool) (i : ℕ) → S 0 1 (borrow_loc u mut i)
  unfolding borrow_loc
  sound_borrow_loc mut i = looking (tabled (only_local u _)) λ t et. checking _ _ tt λ _. pushing _ (k.reference mut (local i et))

  sound_borrow_global : (mut : Bool) (i : ℕ) {σ : Signature} → TypeArgs u σ → S 1 1 (borrow_global u mut i σ)
  unfolding borrow_global struct_type
  sound_borrow_global mut i args =
      then (sound_pop_expecting _ _ tt) λ _. looking (tabled (only_struct_def u _)) λ d ed. looking (only_abilities u _) λ a _. checking _ _ tt λ _.
      pushing _ (k.reference mut (struct (record { index = i; defined = ed; args = args })))

  sound_borrow_global_generic : (mut : Bool) (i : ℕ) → S 1 1 (borrow_global_generic u mut i)
  unfolding borrow_global_generic
  sound_borrow_global_generic mut i =
      looking (tabled (only_struct_instantiation u _)) λ n _. looking (tabled (only_signature u _)) λ σ eσ. sound_borrow_global mut _ (named _ eσ)

  sound_call : (h : FunctionHandle) {σ : Signature} → TypeArgs u σ → WithinEffect I (call_effect u h) (call u h σ)
  unfolding call_effect call
  sound_call h {σ} args = shared (only_signature u _) λ ps _. chosen (only_signature u _) [] (U64 ∷ []) _ (λ e. omega arith) λ rs agrees.
      counted (omega (arith, length-reverse ps)) refl
      (then (sound_pop_each _ tt _ (only_instantiate σ tt) (reverse ps)) λ _. looking (tabled (only_signature u _)) λ rs' ers.
      counted refl (ap length (agrees rs' ers)) (sound_push_each _ rs' (only_instantiate σ tt) λ a b m e. k.made (instantiated args (signature _ ers m) e)))

  only_call_effect : (h : FunctionHandle) → Tabled (call_effect u h)
  unfolding call_effect
  only_call_effect h = only_then _ (only_signature u _) λ _. only_then _ (only_signature u _) λ _. only_ok

  sound_function_call : (i : ℕ) → WithinEffect I (function_handle_at u i >>? call_effect u) (function_call u i)
  unfolding function_call
  sound_function_call i = shared (only_function_handle u i) λ h _. sound_call h without

  sound_function_call_generic : (i : ℕ) → WithinEffect I (instruction_effect u (CallGeneric i)) (function_call_generic u i)
  unfolding instruction_effect function_call_generic
  sound_function_call_generic i = shared (only_function_instantiation u i) λ n _. shared (only_function_handle u _) λ h _.
      apart (only_call_effect h) (tabled (only_signature u _)) λ σ eσ. sound_call h (named _ eσ)

  -- the steps over a struct that is looked up
  module _ {found : Result StructWith} (only : Tabled found) (names : (s : StructWith) → found ≡ ok s → Named u s) where
    module _ {count : Result ℕ} (counts : (s : StructWith) → found ≡ ok s → count ≡ count_of s) (only_count : Tabled count) where
      sound_pack : WithinEffect I (count >>? λ n. n ⇒ 1) (pack found)
      unfolding pack
      sound_pack = chosen only_count 0 1 _ (λ e. omega arith) λ n agrees. looking (tabled only) λ s es. looking (only_fields s) λ ts ets.
          counted (omega (arith, length-reverse ts, fields_length s ts ets, agrees _ (counts s es))) refl
          (then (sound_pop_each _ tt _ (λ t. only_ok) (reverse ts)) λ _. pushing _ (k.made (struct (names s es))))

      sound_unpack : WithinEffect I (count >>? λ n. 1 ⇒ n) (unpack found)
      unfolding unpack
      sound_unpack = chosen only_count 0 1 _ (λ e. omega arith) λ n agrees. looking (tabled only) λ s es. then (sound_pop_expecting _ _ tt) λ _.
          looking (only_fields s) λ ts ets. counted refl (fields_length s ts ets ∙ agrees _ (counts s es))
          (sound_push_each ok ts (λ t. only_ok) λ a b m e. k.made (rw (ok_same refl e) at (all_member (fields_made u s (names s es) ts ets) m)))

    sound_needs_key : (s : StructWith) (w : StatusCode) → T (look_refusal (status_number w)) → S 0 0 (needs_key u s w)
    unfolding needs_key
    sound_needs_key s w a = looking (only_abilities u _) λ _ _. checked _ _ a

    sound_exists : S 1 1 (exists u found)
    unfolding exists
    sound_exists = looking (tabled only) λ s _. then (sound_needs_key s _ tt) λ _. then (sound_pop_expecting _ _ tt) λ _. pushing _ (k.made bool)

    sound_move_from : S 1 1 (move_from u found)
    unfolding move_from
    sound_move_from = looking (tabled only) λ s es. then (sound_needs_key s _ tt) λ _. then (sound_pop_expecting _ _ tt) λ _.
        pushing _ (k.made (struct (names s es)))

    sound_move_to : S 2 0 (move_to u found)
    unfolding move_to
    sound_move_to = looking (tabled only) λ s _. then (sound_needs_key s _ tt) λ _. popping λ _ _. popping λ _ _. checking _ _ tt λ _. checked _ _ tt

  sound_element_is : (t v : SignatureToken) (mut : Bool) → S 0 0 (element_is t v mut)
  unfolding element_is
  sound_element_is t v mut = looking (only_or TYPE_MISMATCH (get_vector_element_type v mut) tt) λ _ _. checked _ _ tt

  sound_borrow_vector_element : (mut : Bool) (i : ℕ) → S 2 1 (borrow_vector_element u mut i)
  unfolding borrow_vector_element
  sound_borrow_vector_element mut i = looking (tabled (only_element_type u _)) λ t et. popping λ _ _. popping λ _ _. checking _ _ tt λ _.
      then (sound_element_is _ _ _) λ _. pushing _ (k.reference mut (element i et))

  sound_pop_step : S 1 0 (pop_step u)
  unfolding pop_step
  sound_pop_step = popping λ _ _. looking (only_abilities u _) λ _ _. checked _ _ tt

  sound_st_loc : (i : ℕ) → S 1 0 (st_loc u i)
  unfolding st_loc
  sound_st_loc i = popping λ _ _. looking (tabled (only_local u _)) λ _ _. checked _ _ tt

  sound_ret_step : S (length u.function.return) 0 (ret_step u)
  unfolding ret_step
  sound_ret_step = counted (length-reverse u.function.return) refl (sound_pop_each _ tt _ (λ t. only_ok) (reverse u.function.return))

  sound_freeze_ref : S 1 1 freeze_ref
  unfolding freeze_ref
  sound_freeze_ref = popping λ t i. looking (only_or FREEZEREF_TYPE_MISMATCH_ERROR (mutable_inner t) tt) λ r e. pushing _ (k.frozen t r i (or_some _ _ _ e))

  sound_ld_const : (i : ℕ) → S 0 1 (ld_const u i)
  unfolding ld_const
  sound_ld_const i = looking (tabled (only_constant u _)) λ t e. pushing _ (k.made (constant i e))

  sound_copy_loc : (i : ℕ) → S 0 1 (copy_loc u i)
  unfolding copy_loc
  sound_copy_loc i = looking (tabled (only_local u _)) λ t e. looking (only_abilities u _) λ _ _. checking _ _ tt λ _. pushing _ (k.made (local i e))

  sound_move_loc : (i : ℕ) → S 0 1 (move_loc u i)
  unfolding move_loc
  sound_move_loc i = looking (tabled (only_local u _)) λ t e. pushing _ (k.made (local i e))

  sound_read_ref : S 1 1 (read_ref u)
  unfolding read_ref
  sound_read_ref = popping λ t i. looking (only_or READREF_TYPE_MISMATCH_ERROR (inner t) tt) λ r e. looking (only_abilities u _) λ _ _.
      checking _ _ tt λ _. pushing _ (k.referent t r i (or_some _ _ _ e))

  sound_write_ref : S 2 0 (write_ref u)
  unfolding write_ref
  sound_write_ref = popping λ t _. popping λ _ _. looking (only_or WRITEREF_NO_MUTABLE_REFERENCE_ERROR (mutable_inner t) tt) λ _ _.
      looking (only_abilities u _) λ _ _. checking _ _ tt λ _. checked _ _ tt

  sound_cast : {t : SignatureToken} → Made u t → S 1 1 (cast t)
  unfolding cast
  sound_cast m = popping λ _ _. checking _ _ tt λ _. pushing _ (k.made m)

  sound_arithmetic : S 2 1 arithmetic
  unfolding arithmetic
  sound_arithmetic = popping λ _ i. popping λ _ _. checking _ _ tt λ _. pushing _ i

  sound_shift : S 2 1 shift
  unfolding shift
  sound_shift = popping λ _ _. popping λ _ i. checking _ _ tt λ _. pushing _ i

  sound_logical : S 2 1 logical
  unfolding logical
  sound_logical = popping λ _ _. popping λ _ _. checking _ _ tt λ _. pushing _ (k.made bool)

  sound_negation : S 1 1 negation
  unfolding negation
  sound_negation = then (sound_pop_expecting _ _ tt) λ _. pushing _ (k.made bool)

  sound_equality : S 2 1 (equality u)
  unfolding equality
  sound_equality = popping λ _ _. popping λ _ _. looking (only_abilities u _) λ _ _. checking _ _ tt λ _. pushing _ (k.made bool)

  sound_comparison : S 2 1 comparison
  unfolding comparison
  sound_comparison = popping λ _ _. popping λ _ _. checking _ _ tt λ _. pushing _ (k.made bool)

  sound_vec_pack : (i n : ℕ) → S n 1 (vec_pack u i n)
  unfolding vec_pack
  sound_vec_pack i n = looking (tabled (only_element_type u _)) λ t e. counted (omega arith) refl (then (sound_pop_n n) λ _. pushing _ (k.vector (element i e)))

  sound_vec_len : (i : ℕ) → S 1 1 (vec_len u i)
  unfolding vec_len
  sound_vec_len i = popping λ _ _. looking (tabled (only_element_type u _)) λ _ _. then (sound_element_is _ _ _) λ _. pushing _ (k.made u64)

  sound_vec_push_back : (i : ℕ) → S 2 0 (vec_push_back u i)
  unfolding vec_push_back
  sound_vec_push_back i = popping λ _ _. popping λ _ _. looking (tabled (only_element_type u _)) λ _ _. checking _ _ tt λ _. sound_element_is _ _ _

  sound_vec_pop_back : (i : ℕ) → S 1 1 (vec_pop_back u i)
  unfolding vec_pop_back
  sound_vec_pop_back i = popping λ _ _. looking (tabled (only_element_type u _)) λ t e. then (sound_element_is _ _ _) λ _. pushing _ (k.made (element i e))

  sound_vec_unpack : (i n : ℕ) → S 1 n (vec_unpack u i n)
  unfolding vec_unpack
  sound_vec_unpack i n = popping λ _ _. looking (tabled (only_element_type u _)) λ t e. checking _ _ tt λ _. sound_push_n n _ (k.made (element i e))

  sound_vec_swap : (i : ℕ) → S 3 0 (vec_swap u i)
  unfolding vec_swap
  sound_vec_swap i = popping λ _ _. popping λ _ _. popping λ _ _. checking _ _ tt λ _. looking (tabled (only_element_type u _)) λ _ _. sound_element_is _ _ _

  -- ── `verify_instr` ──

  only_count : (i : ℕ) → Tabled (field_count_at u i)
  unfolding field_count_at
  only_count i = only_then _ (only_struct_def u i) λ d. only_ok

  only_generic_count : (i : ℕ) → Tabled (field_count_of_instantiation u i)
  unfolding field_count_of_instantiation
  only_generic_count i = only_then _ (only_struct_instantiation u i) λ n. only_count _

  -- Each instruction's step moves what its stack effect says.
  pub step_sound : (i : Bytecode) → WithinEffect I (instruction_effect u i) (verify_instr u i)
  unfolding instruction_effect verify_instr
  step_sound Pop = fixed sound_pop_step
  step_sound Ret = fixed sound_ret_step
  step_sound BrTrue = fixed (sound_pop_expecting _ _ tt)
  step_sound BrFalse = fixed (sound_pop_expecting _ _ tt)
  step_sound Branch = fixed nothing
  step_sound LdU8 = fixed (pushing _ (k.made u8))
  step_sound LdU64 = fixed (pushing _ (k.made u64))
  step_sound LdU128 = fixed (pushing _ (k.made u128))
  step_sound CastU8 = fixed (sound_cast u8)
  step_sound CastU64 = fixed (sound_cast u64)
  step_sound CastU128 = fixed (sound_cast u128)
  step_sound (LdConst i) = fixed (sound_ld_const i)
  step_sound LdTrue = fixed (pushing _ (k.made bool))
  step_sound LdFalse = fixed (pushing _ (k.made bool))
  step_sound (CopyLoc i) = fixed (sound_copy_loc i)
  step_sound (MoveLoc i) = fixed (sound_move_loc i)
  step_sound (StLoc i) = fixed (sound_st_loc i)
  step_sound (Call i) = sound_function_call i
  step_sound (CallGeneric i) = sound_function_call_generic i
  step_sound (Pack i) = sound_pack (only_plain u i) (named_plain u i) (plain_count u i) (only_count i)
  step_sound (PackGeneric i) = sound_pack (only_generic u i) (named_generic u i) (generic_count u i) (only_generic_count i)
  step_sound (Unpack i) = sound_unpack (only_plain u i) (named_plain u i) (plain_count u i) (only_count i)
  step_sound (UnpackGeneric i) = sound_unpack (only_generic u i) (named_generic u i) (generic_count u i) (only_generic_count i)
  step_sound ReadRef = fixed sound_read_ref
  step_sound WriteRef = fixed sound_write_ref
  step_sound FreezeRef = fixed sound_freeze_ref
  step_sound (MutBorrowLoc i) = fixed (sound_borrow_loc true i)
  step_sound (ImmBorrowLoc i) = fixed (sound_borrow_loc false i)
  step_sound (MutBorrowField i) = fixed (sound_borrow_field true i without)
  step_sound (MutBorrowFieldGeneric i) = fixed (sound_borrow_field_generic true i)
  step_sound (ImmBorrowField i) = fixed (sound_borrow_field false i without)
  step_sound (ImmBorrowFieldGeneric i) = fixed (sound_borrow_field_generic false i)
  step_sound (MutBorrowGlobal i) = fixed (sound_borrow_global true i without)
  step_sound (MutBorrowGlobalGeneric i) = fixed (sound_borrow_global_generic true i)
  step_sound (ImmBorrowGlobal i) = fixed (sound_borrow_global false i without)
  step_sound (ImmBorrowGlobalGeneric i) = fixed (sound_borrow_global_generic false i)
  step_sound Add = fixed sound_arithmetic
  step_sound Sub = fixed sound_arithmetic
  step_sound Mul = fixed sound_arithmetic
  step_sound Mod = fixed sound_arithmetic
  step_sound Div = fixed sound_arithmetic
  step_sound BitOr = fixed sound_arithmetic
  step_sound BitAnd = fixed sound_arithmetic
  step_sound Xor = fixed sound_arithmetic
  step_sound Or = fixed sound_logical
  step_sound And = fixed sound_logical
  step_sound Not = fixed sound_negation
  step_sound Eq = fixed sound_equality
  step_sound Neq = fixed sound_equality
  step_sound Lt = fixed sound_comparison
  step_sound Gt = fixed sound_comparison
  step_sound Le = fixed sound_comparison
  step_sound Ge = fixed sound_comparison
  step_sound Abort = fixed (sound_pop_expecting _ _ tt)
  step_sound Nop = fixed nothing
  step_sound (Exists i) = fixed (sound_exists (only_plain u i) (named_plain u i))
  step_sound (ExistsGeneric i) = fixed (sound_exists (only_generic u i) (named_generic u i))
  step_sound (MoveFrom i) = fixed (sound_move_from (only_plain u i) (named_plain u i))
  step_sound (MoveFromGeneric i) = fixed (sound_move_from (only_generic u i) (named_generic u i))
  step_sound (MoveTo i) = fixed (sound_move_to (only_plain u i) (named_plain u i))
  step_sound (MoveToGeneric i) = fixed (sound_move_to (only_generic u i) (named_generic u i))
  step_sound Shl = fixed sound_shift
  step_sound Shr = fixed sound_shift
  step_sound (VecPack i n) = fixed (sound_vec_pack i n)
  step_sound (VecLen i) = fixed (sound_vec_len i)
  step_sound (VecImmBorrow i) = fixed (sound_borrow_vector_element false i)
  step_sound (VecMutBorrow i) = fixed (sound_borrow_vector_element true i)
  step_sound (VecPushBack i) = fixed (sound_vec_push_back i)
  step_sound (VecPopBack i) = fixed (sound_vec_pop_back i)
  step_sound (VecUnpack i n) = fixed (sound_vec_unpack i n)
  step_sound (VecSwap i) = fixed (sound_vec_swap i)
