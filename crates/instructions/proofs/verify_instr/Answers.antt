-- Arms of more than one opcode, or whose step is one of a family of steps; the others are found.
use mathlib.Core.Path.{refl}
use Rattle.definitions.specs.SignatureToken.{Bool', U64, encode}
use Rattle.definitions.specs.TypeSafety.{verify_instr}
use Rattle.record_views.specs.Records.{instruction_of}
use Rattle.signature_token.specs.TokenLaws.{is_bool, is_u64}
use Rattle.instructions.specs.Does.{Each, load_does, cast_does, does_at, arm_does, between}
use Rattle.instructions.proofs.verify_instr.Goals as goal

pub returns-in-BrBool : goal.returns-in-BrBool
unfolding instruction_of verify_instr Each encode
returns-in-BrBool c =
    let h = c.pop_leaf.ensures.steps Bool' is_bool in
    arm_does c.in-BrBool.ensures c.instruction_at-it.ensures (h, h)

pub returns-in-LdInteger : goal.returns-in-LdInteger
unfolding instruction_of verify_instr Each encode
returns-in-LdInteger c =
    does_at c.instruction_at-it.ensures
    (load_does (between c.in-LdInteger.ensures refl)
    (rw c.integer_type.ensures at c.push_leaf.ensures))

pub returns-in-Cast : goal.returns-in-Cast
unfolding instruction_of verify_instr Each encode
returns-in-Cast c =
    does_at c.instruction_at-it.ensures
    (cast_does (between c.in-Cast.ensures refl)
    (rw c.integer_type-in-Cast.ensures at c.cast.ensures))

pub returns-in-LdBool : goal.returns-in-LdBool
unfolding instruction_of verify_instr Each encode
returns-in-LdBool c =
    let h = c.push_leaf-in-LdBool.ensures.steps Bool' refl in
    arm_does c.in-LdBool.ensures c.instruction_at-it.ensures (h, h)

pub returns-in-Arithmetic : goal.returns-in-Arithmetic
unfolding instruction_of verify_instr Each encode
returns-in-Arithmetic c =
    let h = c.arithmetic.ensures in
    arm_does c.in-Arithmetic.ensures c.instruction_at-it.ensures (h, (h, (h, (h, (h, (h, (h, h)))))))

pub returns-in-Logical : goal.returns-in-Logical
unfolding instruction_of verify_instr Each encode
returns-in-Logical c =
    let h = c.logical.ensures in
    arm_does c.in-Logical.ensures c.instruction_at-it.ensures (h, h)

pub returns-in-Equality : goal.returns-in-Equality
unfolding instruction_of verify_instr Each encode
returns-in-Equality c =
    let h = c.equality.ensures in
    arm_does c.in-Equality.ensures c.instruction_at-it.ensures (h, h)

pub returns-in-Comparison : goal.returns-in-Comparison
unfolding instruction_of verify_instr Each encode
returns-in-Comparison c =
    let h = c.comparison.ensures in
    arm_does c.in-Comparison.ensures c.instruction_at-it.ensures (h, (h, (h, h)))

pub returns-in-Abort : goal.returns-in-Abort
unfolding instruction_of verify_instr Each encode
returns-in-Abort c = arm_does c.in-Abort.ensures c.instruction_at-it.ensures (c.pop_leaf-in-Abort.ensures.steps U64 is_u64)

pub returns-in-Shift : goal.returns-in-Shift
unfolding instruction_of verify_instr Each encode
returns-in-Shift c =
    let h = c.shift.ensures in
    arm_does c.in-Shift.ensures c.instruction_at-it.ensures (h, h)
