-- A native struct, a field past those declared, or a field that stands where those before it end.
use Rattle.std.specs.Prelude.{refl}
use native.Mathlib.Omega.{arith}
use Rattle.field_steps.specs.Fields.{no_fields, field_past, types_before, type_behind, field_found}
use Rattle.field_steps.proofs.field_at.Goals as goal

pub returns-in_default : goal.returns-in_default
returns-in_default c = no_fields c.in_default.is

pub returns-then-count-k : goal.returns-then-count-k
returns-then-count-k c = field_past c.in-Declared.is c.from-k.ensures c.if-count-k.true

pub invariant_of-before : goal.invariant_of-before
invariant_of-before c = record { stand = types_before c.in-Declared.list (omega arith) }

pub invariant_of-result : goal.invariant_of-result
invariant_of-result c = record { stands = type_behind c.in-Declared.list (omega arith) c.end.ensures }

pub returns : goal.returns
returns c = field_found c.in-Declared.is c.from-k.ensures (omega arith) refl c.end.ensures
