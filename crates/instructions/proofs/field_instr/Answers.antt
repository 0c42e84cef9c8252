-- A borrow that is not generic has no type arguments.
use Rattle.std.specs.Prelude.{[]}
use native.Mathlib.Omega.{arith}
use Rattle.definitions.specs.TypeSafety.{verify_instr}
use Rattle.record_views.specs.Records.{instruction_of}
use Rattle.step_views.specs.Looked.{list_room}
use Rattle.instructions.specs.Does.{key_does}
use Rattle.instructions.proofs.field_instr.Goals as goal

pub borrow_field-requires-clause-short : goal.borrow_field-requires-clause-short
borrow_field-requires-clause-short c = list_room c.args.unit.now c.no_types-none.ensures.in_unit

pub borrow_field-requires-in-30-clause-short : goal.borrow_field-requires-in-30-clause-short
borrow_field-requires-in-30-clause-short c = list_room c.args.unit.now c.no_types-none.ensures.in_unit

pub returns-in-28 : goal.returns-in-28
unfolding instruction_of verify_instr
returns-in-28 c = key_does 28 (omega arith) (c.borrow_field.ensures (record { types = []; are = c.no_types-none.ensures.are }))

pub returns-in-30 : goal.returns-in-30
unfolding instruction_of verify_instr
returns-in-30 c = key_does 30 (omega arith) (c.borrow_field-in-30.ensures (record { types = []; are = c.no_types-none.ensures.are }))
