-- Each table has an index type of its own, after the source's newtypes: an entry is looked up by the index of its table, and an index of another
-- table is no such index, though both hold a number.
use Rattle.std.specs.Prelude.{◌≡◌, refl, List}
use Rattle.definitions.specs.Result.{Result, at}
use Rattle.file_format.specs.declared.SignatureIndex.{SignatureIndex}
use Rattle.file_format.specs.declared.StructHandleIndex.{StructHandleIndex}
use Rattle.file_format.specs.declared.StructDefinitionIndex.{StructDefinitionIndex}
use Rattle.file_format.specs.declared.FunctionHandleIndex.{FunctionHandleIndex}

module _ {A : Type 0} (table : List A) where
  abbrev pub signature_entry : SignatureIndex → Result A
  signature_entry i = at table i.0

  abbrev pub struct_handle_entry : StructHandleIndex → Result A
  struct_handle_entry i = at table i.0

  abbrev pub struct_definition_entry : StructDefinitionIndex → Result A
  struct_definition_entry i = at table i.0

  abbrev pub function_handle_entry : FunctionHandleIndex → Result A
  function_handle_entry i = at table i.0

  -- the entry of an index is that of its number
  pub entry_is :
      (signature : SignatureIndex) (handle : StructHandleIndex) (definition : StructDefinitionIndex) (function : FunctionHandleIndex) →
      (signature_entry signature ≡ at table signature.0) × (struct_handle_entry handle ≡ at table handle.0)
      × (struct_definition_entry definition ≡ at table definition.0) × (function_handle_entry function ≡ at table function.0)
  entry_is signature handle definition function = (refl, refl, refl, refl)
