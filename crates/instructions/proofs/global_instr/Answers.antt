-- A borrow that is not generic has no type arguments.
use Rattle.std.specs.Prelude.{[]}
use native.Mathlib.Omega.{arith}
use Rattle.definitions.specs.TypeSafety.{verify_instr}
use Rattle.record_views.specs.Records.{instruction_of}
use Rattle.step_views.specs.Looked.{list_room}
use Rattle.instructions.specs.Does.{key_does}
use Rattle.instructions.proofs.global_instr.Goals as goal

pub borrow_global-requires-clause-short : goal.borrow_global-requires-clause-short
borrow_global-requires-clause-short c = list_room c.args.unit.now c.no_types-none.ensures.in_unit

pub borrow_global-requires-in-34-clause-short : goal.borrow_global-requires-in-34-clause-short
borrow_global-requires-in-34-clause-short c = list_room c.args.unit.now c.no_types-none.ensures.in_unit

pub returns-in-32 : goal.returns-in-32
unfolding instruction_of verify_instr
returns-in-32 c = key_does 32 (omega arith) (c.borrow_global.ensures (record { types = []; are = c.no_types-none.ensures.are }))

pub returns-in-34 : goal.returns-in-34
unfolding instruction_of verify_instr
returns-in-34 c = key_does 34 (omega arith) (c.borrow_global-in-34.ensures (record { types = []; are = c.no_types-none.ensures.are }))
