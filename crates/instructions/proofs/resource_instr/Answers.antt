-- Each opcode does its own step, on what its look-up answered.
use native.Mathlib.Omega.{arith}
use Rattle.definitions.specs.TypeSafety.{verify_instr}
use Rattle.record_views.specs.Records.{instruction_of}
use Rattle.step_views.specs.Looked.{looked_up}
use Rattle.instructions.specs.Does.{key_does}
use Rattle.instructions.proofs.resource_instr.Goals as goal

pub returns-in-55 : goal.returns-in-55
unfolding instruction_of verify_instr
returns-in-55 c = key_does 55 (omega arith) (c.exists.ensures (looked_up c.plain_struct.ensures.value))

pub returns-in-56 : goal.returns-in-56
unfolding instruction_of verify_instr
returns-in-56 c = key_does 56 (omega arith) (c.exists-in-56.ensures (looked_up c.generic_struct.ensures.value))

pub returns-in-57 : goal.returns-in-57
unfolding instruction_of verify_instr
returns-in-57 c = key_does 57 (omega arith) (c.move_from.ensures (looked_up c.plain_struct-in-57.ensures.value))

pub returns-in-58 : goal.returns-in-58
unfolding instruction_of verify_instr
returns-in-58 c = key_does 58 (omega arith) (c.move_from-in-58.ensures (looked_up c.generic_struct-in-58.ensures.value))

pub returns-in-59 : goal.returns-in-59
unfolding instruction_of verify_instr
returns-in-59 c = key_does 59 (omega arith) (c.move_to.ensures (looked_up c.plain_struct-in-59.ensures.value))

pub returns-in_default : goal.returns-in_default
unfolding instruction_of verify_instr
returns-in_default c = key_does 60 (omega arith) (c.move_to-in_default.ensures (looked_up c.generic_struct-in_default.ensures.value))
