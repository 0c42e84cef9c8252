-- The struct is measured and written behind the stack, or there is no room for it.
use native.Mathlib.Omega.{arith}
use Rattle.type_stack.specs.Pushing.{push_over, push_lent}
use Rattle.made_types.specs.Pushes.{struct_pushed}
use Rattle.made_types.proofs.push_struct.Goals as goal

pub returns-then-area-weight : goal.returns-then-area-weight
returns-then-area-weight c =
    struct_pushed _ c.new-made.result c.new-made.ensures.made (push_over _ c.size-len.ensures c.requires.stacked c.if-area-weight.true)

pub returns : goal.returns
returns c =
    struct_pushed _ c.new-made.result c.new-made.ensures.made
    (push_lent _ c.size-len.ensures (omega arith) c.write_to.ensures c.seal.ensures.1 c.seal.ensures.0)
