-- A decoded unit (document 01's term: one module or script with one function): the tables of `CompiledModule` and `CompiledScript`
-- that the two passes read, the function as `FunctionView` shows it, its listed blocks and its code; and the look-ups of
-- `BinaryIndexedView`. Where the Rust's look-up panics, OUT_OF_TABLE; where a script lacks the table, INVALID_OPERATION_IN_SCRIPT.
use Rattle.std.specs.Prelude.{Bool, cond, List, [], ℕ, ◌-◌, ltb, length}
use Rattle.status.specs.declared.StatusCode.TheVariants.{INVALID_OPERATION_IN_SCRIPT}
use Rattle.definitions.specs.Result.{Result, ok, err, ◌>>?◌, at}
use Rattle.definitions.specs.AbilitySet.{AbilitySet}
use Rattle.definitions.specs.SignatureToken.{SignatureToken, Signature}
use Rattle.definitions.specs.Bytecode.{Bytecode}

-- the head byte; `BinaryIndexedView::Module` and `::Script`
pub data Head : Type 0 where
  Module Script : Head

-- `StructTypeParameter`, without its constraints: they are not read here
pub record StructTypeParameter : Type 0 where
  pub is_phantom : Bool

-- record `10`
pub record StructHandle : Type 0 where
  pub abilities : AbilitySet
  pub type_parameters : List StructTypeParameter

-- record `12`: signature indexes
pub record FunctionHandle : Type 0 where
  pub parameters : ℕ
  pub return : ℕ

-- record `13`: a function handle and its type arguments' signature, by index
pub record FunctionInstantiation : Type 0 where
  pub handle : ℕ
  pub type_parameters : ℕ

-- a struct's fields: none to see where it is native
pub data StructFieldInformation : Type 0 where
  Native : StructFieldInformation
  Declared : List SignatureToken → StructFieldInformation

-- record `14`
pub record StructDefinition : Type 0 where
  pub struct_handle : ℕ
  pub field_information : StructFieldInformation

-- record `15`: a struct definition and its type arguments' signature, by index
pub record StructDefInstantiation : Type 0 where
  pub def : ℕ
  pub type_parameters : ℕ

-- record `16`: a struct definition and the field's number in it
pub record FieldHandle : Type 0 where
  pub owner : ℕ
  pub field : ℕ

-- record `17`: a field handle and its type arguments' signature, by index
pub record FieldInstantiation : Type 0 where
  pub handle : ℕ
  pub type_parameters : ℕ

-- record `19`, its signatures looked up
pub record FunctionView : Type 0 where
  pub parameters : Signature
  pub return : Signature
  pub locals : Signature
  pub type_parameters : List AbilitySet

-- record `1A`: the first and the last instruction
pub record Block : Type 0 where
  pub first : ℕ
  pub last : ℕ

-- the tables, each in the order of its records
pub record CompiledUnit : Type 0 where
  pub head : Head
  pub struct_handles : List StructHandle
  pub signatures : List Signature
  pub function_handles : List FunctionHandle
  pub function_instantiations : List FunctionInstantiation
  pub struct_defs : List StructDefinition
  pub struct_instantiations : List StructDefInstantiation
  pub field_handles : List FieldHandle
  pub field_instantiations : List FieldInstantiation
  pub constants : List SignatureToken
  pub function : FunctionView
  pub blocks : List Block
  pub code : List Bytecode

-- the tables that only a module has
unfoldable pub in_module : {A : Type 0} → Head → Result A → Result A
in_module Module found = found
in_module Script found = err INVALID_OPERATION_IN_SCRIPT

module _ (u : CompiledUnit) where
  -- `struct_handle_at`
  unfoldable pub struct_handle_at : ℕ → Result StructHandle
  struct_handle_at i = at u.struct_handles i

  -- `signature_at`
  unfoldable pub signature_at : ℕ → Result Signature
  signature_at i = at u.signatures i

  -- `function_handle_at`
  unfoldable pub function_handle_at : ℕ → Result FunctionHandle
  function_handle_at i = at u.function_handles i

  -- `function_instantiation_at`
  unfoldable pub function_instantiation_at : ℕ → Result FunctionInstantiation
  function_instantiation_at i = at u.function_instantiations i

  -- `struct_def_at`
  unfoldable pub struct_def_at : ℕ → Result StructDefinition
  struct_def_at i = in_module u.head (at u.struct_defs i)

  -- `struct_instantiation_at`
  unfoldable pub struct_instantiation_at : ℕ → Result StructDefInstantiation
  struct_instantiation_at i = in_module u.head (at u.struct_instantiations i)

  -- `field_handle_at`
  unfoldable pub field_handle_at : ℕ → Result FieldHandle
  field_handle_at i = in_module u.head (at u.field_handles i)

  -- `field_instantiation_at`
  unfoldable pub field_instantiation_at : ℕ → Result FieldInstantiation
  field_instantiation_at i = in_module u.head (at u.field_instantiations i)

  -- `constant_at`: the constant's type
  unfoldable pub constant_at : ℕ → Result SignatureToken
  constant_at i = at u.constants i

  -- `Locals::local_at` of type_safety.rs: parameters first, then locals
  unfoldable pub local_at : ℕ → Result SignatureToken
  local_at i =
      cond (ltb i (length u.function.parameters))
      (at u.function.parameters i)
      (at u.function.locals (i - length u.function.parameters))

  -- `signature_at(idx).0[0]`: the element type that a vector instruction names
  unfoldable pub element_type_at : ℕ → Result SignatureToken
  element_type_at i = signature_at i >>? λ signature. at signature 0

-- a struct definition and its type arguments, as Pack, Unpack, Exists, MoveFrom and MoveTo look them up
pub record StructWith : Type 0 where
  pub def : StructDefinition
  pub type_args : Signature

module _ (u : CompiledUnit) where
  -- not generic: no type arguments
  unfoldable pub plain_struct : ℕ → Result StructWith
  plain_struct i = struct_def_at u i >>? λ def. ok (record { def = def; type_args = [] })

  -- generic: instantiation, definition, signature
  unfoldable pub generic_struct : ℕ → Result StructWith
  generic_struct i =
      struct_instantiation_at u i >>? λ inst. struct_def_at u inst.def >>? λ def.
      signature_at u inst.type_parameters >>? λ type_args. ok (record { def = def; type_args = type_args })
