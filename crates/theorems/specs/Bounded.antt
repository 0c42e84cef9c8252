-- No type in a unit nests over 32 levels. The reader gives only such units (`read_unit_bounded`); what the passes make of their types
-- nests little deeper.
use Rattle.std.specs.Prelude.{ℕ, ◌≤◌}
use Rattle.definitions.specs.SignatureToken.{SignatureToken, depth}
use Rattle.definitions.specs.CompiledUnit.{CompiledUnit, StructFieldInformation, Native, Declared, StructDefinition}
use Rattle.theorems.specs.All.{All}

-- at most n levels
abbrev pub NestsWithin : ℕ → SignatureToken → Type 0
NestsWithin n t = depth t ≤ n

abbrev pub FieldsNestWithin : ℕ → StructFieldInformation → Type 0
FieldsNestWithin n Native = Unit {0}
FieldsNestWithin n (Declared fields) = All (NestsWithin n) fields

abbrev pub DefinitionNestsWithin : ℕ → StructDefinition → Type 0
DefinitionNestsWithin n d = FieldsNestWithin n d.field_information

-- every type of the unit nests at most 32 levels
pub record Bounded (u : CompiledUnit) : Type 0 where
  pub signatures : All (All (NestsWithin 32)) u.signatures
  pub struct_defs : All (DefinitionNestsWithin 32) u.struct_defs
  pub constants : All (NestsWithin 32) u.constants
  pub parameters : All (NestsWithin 32) u.function.parameters
  pub return : All (NestsWithin 32) u.function.return
  pub locals : All (NestsWithin 32) u.function.locals
