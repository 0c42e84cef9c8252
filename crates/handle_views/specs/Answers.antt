-- The records that the look-ups find, as the definitions have them.
use Rattle.definitions.specs.CompiledUnit as defs
use Rattle.handle_views.specs.declared.FunctionHandle.{FunctionHandle}
use Rattle.handle_views.specs.declared.FunctionInstantiation.{FunctionInstantiation}
use Rattle.handle_views.specs.declared.StructDefInstantiation.{StructDefInstantiation}
use Rattle.handle_views.specs.declared.FieldHandle.{FieldHandle}
use Rattle.handle_views.specs.declared.FieldInstantiation.{FieldInstantiation}

abbrev pub handle_of : FunctionHandle → defs.FunctionHandle
handle_of h = record { parameters = h.parameters.0; return = h.return_.0 }

abbrev pub instantiation_of : FunctionInstantiation → defs.FunctionInstantiation
instantiation_of i = record { handle = i.handle.0; type_parameters = i.type_parameters.0 }

abbrev pub struct_instantiation_of : StructDefInstantiation → defs.StructDefInstantiation
struct_instantiation_of i = record { def = i.def.0; type_parameters = i.type_parameters.0 }

abbrev pub field_handle_of : FieldHandle → defs.FieldHandle
field_handle_of h = record { owner = h.owner.0; field = h.field }

abbrev pub field_instantiation_of : FieldInstantiation → defs.FieldInstantiation
field_instantiation_of i = record { handle = i.handle.0; type_parameters = i.type_parameters.0 }
