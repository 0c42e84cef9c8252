-- type_safety.rs: `verify_instr` and the functions below it, each as a program of pops and pushes, in the Rust's order of refusals.
use Rattle.std.specs.Prelude.{Bool, true, false, ◌&&◌, not, List, [], reverse, ℕ}
use Rattle.status.specs.declared.StatusCode.{StatusCode}
use Rattle.status.specs.declared.StatusCode.TheVariants.{BORROWFIELD_TYPE_MISMATCH_ERROR, BORROWFIELD_BAD_FIELD_ERROR, BORROWLOC_REFERENCE_ERROR, BORROWGLOBAL_TYPE_MISMATCH_ERROR, BORROWGLOBAL_WITHOUT_KEY_ABILITY, CALL_TYPE_MISMATCH_ERROR, PACK_TYPE_MISMATCH_ERROR, UNPACK_TYPE_MISMATCH_ERROR, EXISTS_WITHOUT_KEY_ABILITY_OR_BAD_ARGUMENT, MOVEFROM_WITHOUT_KEY_ABILITY, MOVEFROM_TYPE_MISMATCH_ERROR, MOVETO_WITHOUT_KEY_ABILITY, MOVETO_TYPE_MISMATCH_ERROR, TYPE_MISMATCH, POP_WITHOUT_DROP_ABILITY, BR_TYPE_MISMATCH_ERROR, STLOC_TYPE_MISMATCH_ERROR, ABORT_TYPE_MISMATCH_ERROR, RET_TYPE_MISMATCH_ERROR, FREEZEREF_TYPE_MISMATCH_ERROR, COPYLOC_WITHOUT_COPY_ABILITY, READREF_WITHOUT_COPY_ABILITY, READREF_TYPE_MISMATCH_ERROR, WRITEREF_NO_MUTABLE_REFERENCE_ERROR, WRITEREF_WITHOUT_DROP_ABILITY, WRITEREF_TYPE_MISMATCH_ERROR, INTEGER_OP_TYPE_MISMATCH_ERROR, BOOLEAN_OP_TYPE_MISMATCH_ERROR, EQUALITY_OP_TYPE_MISMATCH_ERROR}
use Rattle.definitions.specs.Result.{Result, ok, err, ◌>>?◌, or_err, at}
use Rattle.definitions.specs.AbilitySet.{has_copy, has_drop, has_key}
use Rattle.definitions.specs.SignatureToken.{SignatureToken, Signature, Bool', U8, U64, U128, Address, Signer, Vector, Reference, same, is_integer}
use Rattle.definitions.specs.Bytecode.{Bytecode, Pop, Ret, BrTrue, BrFalse, Branch, LdU8, LdU64, LdU128, CastU8, CastU64, CastU128, LdConst, LdTrue, LdFalse, CopyLoc, MoveLoc, StLoc, Call, CallGeneric, Pack, PackGeneric, Unpack, UnpackGeneric, ReadRef, WriteRef, FreezeRef, MutBorrowLoc, ImmBorrowLoc, MutBorrowField, MutBorrowFieldGeneric, ImmBorrowField, ImmBorrowFieldGeneric, MutBorrowGlobal, MutBorrowGlobalGeneric, ImmBorrowGlobal, ImmBorrowGlobalGeneric, Add, Sub, Mul, Mod, Div, BitOr, BitAnd, Xor, Or, And, Not, Eq, Neq, Lt, Gt, Le, Ge, Abort, Nop, Exists, ExistsGeneric, MoveFrom, MoveFromGeneric, MoveTo, MoveToGeneric, Shl, Shr, VecPack, VecLen, VecImmBorrow, VecMutBorrow, VecPushBack, VecPopBack, VecUnpack, VecSwap}
use Rattle.definitions.specs.CompiledUnit.{CompiledUnit, FunctionHandle, StructFieldInformation, Native, Declared, StructWith, signature_at, function_handle_at, function_instantiation_at, struct_def_at, struct_instantiation_at, field_handle_at, field_instantiation_at, constant_at, local_at, element_type_at, plain_struct, generic_struct}
use Rattle.definitions.specs.Abilities.{abilities}
use Rattle.definitions.specs.Substitution.{materialize_type, instantiate, instantiate_each, inner, mutable_inner, is_reference, is_mutable_reference, get_vector_element_type, reference_to}
use Rattle.definitions.specs.Machine.{Step, ◌>>=◌, ◌>>◌, done, pop, push, look, check, pop_each, push_each, pop_n, push_n}

-- `StructFieldInformation::Declared(fields)`, or a refusal
abbrev pub declared_fields : StatusCode → StructFieldInformation → Result (List SignatureToken)
declared_fields status Native = err status
declared_fields status (Declared fields) = ok fields

-- a struct's type
unfoldable pub struct_type : StructWith → SignatureToken
struct_type s = materialize_type s.def.struct_handle s.type_args

-- `type_fields_signature`: every field instantiated before one is compared or pushed
unfoldable pub type_fields_signature : StructWith → Result Signature
type_fields_signature s =
    declared_fields PACK_TYPE_MISMATCH_ERROR s.def.field_information >>? λ fields. instantiate_each fields s.type_args

-- an operand that must be that type
unfoldable pub pop_expecting : SignatureToken → StatusCode → Step
pop_expecting t status = do
  operand ← pop
  check (same operand t) status

-- ── steps that are given what was looked up, or look nothing up ──

-- `pack`
unfoldable pub pack : Result StructWith → Step
pack found = do
  struct ← look found
  fields ← look (type_fields_signature struct)
  pop_each PACK_TYPE_MISMATCH_ERROR ok (reverse fields)
  push (struct_type struct)

-- `unpack`
unfoldable pub unpack : Result StructWith → Step
unpack found = do
  struct ← look found
  pop_expecting (struct_type struct) UNPACK_TYPE_MISMATCH_ERROR
  fields ← look (type_fields_signature struct)
  push_each ok fields

-- the guard of the vector instructions: the operand refers to a vector of that element
unfoldable pub element_is : SignatureToken → SignatureToken → Bool → Step
element_is declared vector_ref mut_ref_only = do
  derived ← look (or_err TYPE_MISMATCH (get_vector_element_type vector_ref mut_ref_only))
  check (same derived declared) TYPE_MISMATCH

-- `FreezeRef`
unfoldable pub freeze_ref : Step
freeze_ref = do
  operand ← pop
  referent ← look (or_err FREEZEREF_TYPE_MISMATCH_ERROR (mutable_inner operand))
  push (Reference referent)

-- `CastU8`, `CastU64`, `CastU128`
unfoldable pub cast : SignatureToken → Step
cast t = do
  operand ← pop
  check (is_integer operand) INTEGER_OP_TYPE_MISMATCH_ERROR
  push t

-- `Add` to `Xor`
unfoldable pub arithmetic : Step
arithmetic = do
  operand1 ← pop
  operand2 ← pop
  check (is_integer operand1 && same operand1 operand2) INTEGER_OP_TYPE_MISMATCH_ERROR
  push operand1

-- `Shl`, `Shr`: the top must be u8
unfoldable pub shift : Step
shift = do
  operand1 ← pop
  operand2 ← pop
  check (is_integer operand2 && same operand1 U8) INTEGER_OP_TYPE_MISMATCH_ERROR
  push operand2

-- `Or`, `And`
unfoldable pub logical : Step
logical = do
  operand1 ← pop
  operand2 ← pop
  check (same operand1 Bool' && same operand2 Bool') BOOLEAN_OP_TYPE_MISMATCH_ERROR
  push Bool'

-- `Not`
unfoldable pub negation : Step
negation = do
  pop_expecting Bool' BOOLEAN_OP_TYPE_MISMATCH_ERROR
  push Bool'

-- `Lt`, `Gt`, `Le`, `Ge`
unfoldable pub comparison : Step
comparison = do
  operand1 ← pop
  operand2 ← pop
  check (is_integer operand1 && same operand1 operand2) INTEGER_OP_TYPE_MISMATCH_ERROR
  push Bool'

-- ── steps over a unit ──

module _ (u : CompiledUnit) where
  -- `borrow_field`
  unfoldable pub borrow_field : Bool → ℕ → Signature → Step
  borrow_field mut idx type_args = do
    operand ← pop
    check (not (mut && not (is_mutable_reference operand))) BORROWFIELD_TYPE_MISMATCH_ERROR
    field_handle ← look (field_handle_at u idx)
    struct_def ← look (struct_def_at u field_handle.owner)
    referent ← look (or_err BORROWFIELD_TYPE_MISMATCH_ERROR (inner operand))
    check (same (materialize_type struct_def.struct_handle type_args) referent) BORROWFIELD_TYPE_MISMATCH_ERROR
    fields ← look (declared_fields BORROWFIELD_BAD_FIELD_ERROR struct_def.field_information)
    field_def ← look (at fields field_handle.field)
    field_type ← look (instantiate field_def type_args)
    push (reference_to mut field_type)

  -- `MutBorrowFieldGeneric`, `ImmBorrowFieldGeneric`
  unfoldable pub borrow_field_generic : Bool → ℕ → Step
  borrow_field_generic mut idx = do
    inst ← look (field_instantiation_at u idx)
    type_inst ← look (signature_at u inst.type_parameters)
    borrow_field mut inst.handle type_inst

  -- `borrow_loc`
  unfoldable pub borrow_loc : Bool → ℕ → Step
  borrow_loc mut idx = do
    local ← look (local_at u idx)
    check (not (is_reference local)) BORROWLOC_REFERENCE_ERROR
    push (reference_to mut local)

  -- `borrow_global`
  unfoldable pub borrow_global : Bool → ℕ → Signature → Step
  borrow_global mut idx type_args = do
    pop_expecting Address BORROWGLOBAL_TYPE_MISMATCH_ERROR
    struct_def ← look (struct_def_at u idx)
    set ← look (abilities u (materialize_type struct_def.struct_handle type_args))
    check (has_key set) BORROWGLOBAL_WITHOUT_KEY_ABILITY
    push (reference_to mut (materialize_type struct_def.struct_handle type_args))

  -- `MutBorrowGlobalGeneric`, `ImmBorrowGlobalGeneric`
  unfoldable pub borrow_global_generic : Bool → ℕ → Step
  borrow_global_generic mut idx = do
    inst ← look (struct_instantiation_at u idx)
    type_inst ← look (signature_at u inst.type_parameters)
    borrow_global mut inst.def type_inst

  -- `call`: each parameter is instantiated after its pop, each return before its push
  unfoldable pub call : FunctionHandle → Signature → Step
  call handle type_actuals = do
    parameters ← look (signature_at u handle.parameters)
    pop_each CALL_TYPE_MISMATCH_ERROR (λ t. instantiate t type_actuals) (reverse parameters)
    returns ← look (signature_at u handle.return)
    push_each (λ t. instantiate t type_actuals) returns

  -- `Call`
  unfoldable pub function_call : ℕ → Step
  function_call idx = do
    handle ← look (function_handle_at u idx)
    call handle []

  -- `CallGeneric`
  unfoldable pub function_call_generic : ℕ → Step
  function_call_generic idx = do
    inst ← look (function_instantiation_at u idx)
    handle ← look (function_handle_at u inst.handle)
    type_args ← look (signature_at u inst.type_parameters)
    call handle type_args

  -- `!verifier.abilities(&struct_type)?.has_key()`
  unfoldable pub needs_key : StructWith → StatusCode → Step
  needs_key struct status = do
    set ← look (abilities u (struct_type struct))
    check (has_key set) status

  -- `exists`
  unfoldable pub exists : Result StructWith → Step
  exists found = do
    struct ← look found
    needs_key struct EXISTS_WITHOUT_KEY_ABILITY_OR_BAD_ARGUMENT
    pop_expecting Address EXISTS_WITHOUT_KEY_ABILITY_OR_BAD_ARGUMENT
    push Bool'

  -- `move_from`
  unfoldable pub move_from : Result StructWith → Step
  move_from found = do
    struct ← look found
    needs_key struct MOVEFROM_WITHOUT_KEY_ABILITY
    pop_expecting Address MOVEFROM_TYPE_MISMATCH_ERROR
    push (struct_type struct)

  -- `move_to`
  unfoldable pub move_to : Result StructWith → Step
  move_to found = do
    struct ← look found
    needs_key struct MOVETO_WITHOUT_KEY_ABILITY
    key_struct ← pop
    signer_reference ← pop
    check (same key_struct (struct_type struct)) MOVETO_TYPE_MISMATCH_ERROR
    check (same signer_reference (Reference Signer)) MOVETO_TYPE_MISMATCH_ERROR

  -- `borrow_vector_element`, after the signature's look-up in VecImmBorrow and VecMutBorrow
  unfoldable pub borrow_vector_element : Bool → ℕ → Step
  borrow_vector_element mut_ref_only idx = do
    declared ← look (element_type_at u idx)
    index ← pop
    vector_ref ← pop
    check (same index U64) TYPE_MISMATCH
    element_is declared vector_ref mut_ref_only
    push (reference_to mut_ref_only declared)

  -- ── the arms of `verify_instr` ──

  -- `Pop`
  unfoldable pub pop_step : Step
  pop_step = do
    operand ← pop
    set ← look (abilities u operand)
    check (has_drop set) POP_WITHOUT_DROP_ABILITY

  -- `StLoc`
  unfoldable pub st_loc : ℕ → Step
  st_loc idx = do
    operand ← pop
    local ← look (local_at u idx)
    check (same operand local) STLOC_TYPE_MISMATCH_ERROR

  -- `Ret`
  unfoldable pub ret_step : Step
  ret_step = pop_each RET_TYPE_MISMATCH_ERROR ok (reverse u.function.return)

  -- `LdConst`
  unfoldable pub ld_const : ℕ → Step
  ld_const idx = do
    type ← look (constant_at u idx)
    push type

  -- `CopyLoc`
  unfoldable pub copy_loc : ℕ → Step
  copy_loc idx = do
    local ← look (local_at u idx)
    set ← look (abilities u local)
    check (has_copy set) COPYLOC_WITHOUT_COPY_ABILITY
    push local

  -- `MoveLoc`
  unfoldable pub move_loc : ℕ → Step
  move_loc idx = do
    local ← look (local_at u idx)
    push local

  -- `ReadRef`
  unfoldable pub read_ref : Step
  read_ref = do
    operand ← pop
    referent ← look (or_err READREF_TYPE_MISMATCH_ERROR (inner operand))
    set ← look (abilities u referent)
    check (has_copy set) READREF_WITHOUT_COPY_ABILITY
    push referent

  -- `WriteRef`
  unfoldable pub write_ref : Step
  write_ref = do
    ref ← pop
    val ← pop
    referent ← look (or_err WRITEREF_NO_MUTABLE_REFERENCE_ERROR (mutable_inner ref))
    set ← look (abilities u referent)
    check (has_drop set) WRITEREF_WITHOUT_DROP_ABILITY
    check (same val referent) WRITEREF_TYPE_MISMATCH_ERROR

  -- `Eq`, `Neq`
  unfoldable pub equality : Step
  equality = do
    operand1 ← pop
    operand2 ← pop
    set ← look (abilities u operand1)
    check (has_drop set && same operand1 operand2) EQUALITY_OP_TYPE_MISMATCH_ERROR
    push Bool'

  -- `VecPack`: it pops without comparing
  unfoldable pub vec_pack : ℕ → ℕ → Step
  vec_pack idx num = do
    element ← look (element_type_at u idx)
    pop_n num
    push (Vector element)

  -- `VecLen`
  unfoldable pub vec_len : ℕ → Step
  vec_len idx = do
    operand ← pop
    declared ← look (element_type_at u idx)
    element_is declared operand false
    push U64

  -- `VecPushBack`
  unfoldable pub vec_push_back : ℕ → Step
  vec_push_back idx = do
    elem ← pop
    vector_ref ← pop
    declared ← look (element_type_at u idx)
    check (same declared elem) TYPE_MISMATCH
    element_is declared vector_ref true

  -- `VecPopBack`
  unfoldable pub vec_pop_back : ℕ → Step
  vec_pop_back idx = do
    vector_ref ← pop
    declared ← look (element_type_at u idx)
    element_is declared vector_ref true
    push declared

  -- `VecUnpack`
  unfoldable pub vec_unpack : ℕ → ℕ → Step
  vec_unpack idx num = do
    operand ← pop
    declared ← look (element_type_at u idx)
    check (same operand (Vector declared)) TYPE_MISMATCH
    push_n num declared

  -- `VecSwap`
  unfoldable pub vec_swap : ℕ → Step
  vec_swap idx = do
    index2 ← pop
    index1 ← pop
    vector_ref ← pop
    check (same index1 U64 && same index2 U64) TYPE_MISMATCH
    declared ← look (element_type_at u idx)
    element_is declared vector_ref true

  -- `verify_instr`: one decision over the instruction
  unfoldable pub verify_instr : Bytecode → Step
  verify_instr Pop = pop_step
  verify_instr Ret = ret_step
  verify_instr BrTrue = pop_expecting Bool' BR_TYPE_MISMATCH_ERROR
  verify_instr BrFalse = pop_expecting Bool' BR_TYPE_MISMATCH_ERROR
  verify_instr Branch = done
  verify_instr LdU8 = push U8
  verify_instr LdU64 = push U64
  verify_instr LdU128 = push U128
  verify_instr CastU8 = cast U8
  verify_instr CastU64 = cast U64
  verify_instr CastU128 = cast U128
  verify_instr (LdConst idx) = ld_const idx
  verify_instr LdTrue = push Bool'
  verify_instr LdFalse = push Bool'
  verify_instr (CopyLoc idx) = copy_loc idx
  verify_instr (MoveLoc idx) = move_loc idx
  verify_instr (StLoc idx) = st_loc idx
  verify_instr (Call idx) = function_call idx
  verify_instr (CallGeneric idx) = function_call_generic idx
  verify_instr (Pack idx) = pack (plain_struct u idx)
  verify_instr (PackGeneric idx) = pack (generic_struct u idx)
  verify_instr (Unpack idx) = unpack (plain_struct u idx)
  verify_instr (UnpackGeneric idx) = unpack (generic_struct u idx)
  verify_instr ReadRef = read_ref
  verify_instr WriteRef = write_ref
  verify_instr FreezeRef = freeze_ref
  verify_instr (MutBorrowLoc idx) = borrow_loc true idx
  verify_instr (ImmBorrowLoc idx) = borrow_loc false idx
  verify_instr (MutBorrowField idx) = borrow_field true idx []
  verify_instr (MutBorrowFieldGeneric idx) = borrow_field_generic true idx
  verify_instr (ImmBorrowField idx) = borrow_field false idx []
  verify_instr (ImmBorrowFieldGeneric idx) = borrow_field_generic false idx
  verify_instr (MutBorrowGlobal idx) = borrow_global true idx []
  verify_instr (MutBorrowGlobalGeneric idx) = borrow_global_generic true idx
  verify_instr (ImmBorrowGlobal idx) = borrow_global false idx []
  verify_instr (ImmBorrowGlobalGeneric idx) = borrow_global_generic false idx
  verify_instr Add = arithmetic
  verify_instr Sub = arithmetic
  verify_instr Mul = arithmetic
  verify_instr Mod = arithmetic
  verify_instr Div = arithmetic
  verify_instr BitOr = arithmetic
  verify_instr BitAnd = arithmetic
  verify_instr Xor = arithmetic
  verify_instr Or = logical
  verify_instr And = logical
  verify_instr Not = negation
  verify_instr Eq = equality
  verify_instr Neq = equality
  verify_instr Lt = comparison
  verify_instr Gt = comparison
  verify_instr Le = comparison
  verify_instr Ge = comparison
  verify_instr Abort = pop_expecting U64 ABORT_TYPE_MISMATCH_ERROR
  verify_instr Nop = done
  verify_instr (Exists idx) = exists (plain_struct u idx)
  verify_instr (ExistsGeneric idx) = exists (generic_struct u idx)
  verify_instr (MoveFrom idx) = move_from (plain_struct u idx)
  verify_instr (MoveFromGeneric idx) = move_from (generic_struct u idx)
  verify_instr (MoveTo idx) = move_to (plain_struct u idx)
  verify_instr (MoveToGeneric idx) = move_to (generic_struct u idx)
  verify_instr Shl = shift
  verify_instr Shr = shift
  verify_instr (VecPack idx num) = vec_pack idx num
  verify_instr (VecLen idx) = vec_len idx
  verify_instr (VecImmBorrow idx) = borrow_vector_element false idx
  verify_instr (VecMutBorrow idx) = borrow_vector_element true idx
  verify_instr (VecPushBack idx) = vec_push_back idx
  verify_instr (VecPopBack idx) = vec_pop_back idx
  verify_instr (VecUnpack idx num) = vec_unpack idx num
  verify_instr (VecSwap idx) = vec_swap idx
