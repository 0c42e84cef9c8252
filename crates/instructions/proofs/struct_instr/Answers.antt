-- Each opcode does its own step, on what its look-up answered.
use native.Mathlib.Omega.{arith}
use Rattle.definitions.specs.TypeSafety.{verify_instr}
use Rattle.record_views.specs.Records.{instruction_of}
use Rattle.step_views.specs.Looked.{looked_up}
use Rattle.instructions.specs.Does.{key_does}
use Rattle.instructions.proofs.struct_instr.Goals as goal

pub returns-in-19 : goal.returns-in-19
unfolding instruction_of verify_instr
returns-in-19 c = key_does 19 (omega arith) (c.pack.ensures (looked_up c.plain_struct.ensures.value))

pub returns-in-20 : goal.returns-in-20
unfolding instruction_of verify_instr
returns-in-20 c = key_does 20 (omega arith) (c.pack-in-20.ensures (looked_up c.generic_struct.ensures.value))

pub returns-in-21 : goal.returns-in-21
unfolding instruction_of verify_instr
returns-in-21 c = key_does 21 (omega arith) (c.unpack.ensures (looked_up c.plain_struct-in-21.ensures.value))

pub returns-in_default : goal.returns-in_default
unfolding instruction_of verify_instr
returns-in_default c = key_does 22 (omega arith) (c.unpack-in_default.ensures (looked_up c.generic_struct-in_default.ensures.value))
