-- The struct is measured and written behind the reference's command, or there is no room for both.
use native.Mathlib.Omega.{arith}
use mathlib.Core.List.{◌∷◌}
use Rattle.type_stack.specs.Pushing.{push_over, push_lent_under}
use Rattle.made_types.specs.Pushes.{struct_reference_pushed}
use Rattle.made_types.proofs.push_struct_reference.Goals as goal

pub returns-then-area-weight : goal.returns-then-area-weight
returns-then-area-weight c =
    struct_reference_pushed _ c.new-made.result c.new-made.ensures.made c.reference_command-command.ensures
    (push_over (_ ∷ _) (omega (arith, c.size-len.ensures)) c.requires.stacked c.if-area-weight.true)

pub returns : goal.returns
returns c =
    struct_reference_pushed _ c.new-made.result c.new-made.ensures.made c.reference_command-command.ensures
    (push_lent_under _ _ (omega (arith, c.size-len.ensures)) (omega arith) c.put_command.ensures c.write_to.ensures c.seal.ensures.1 c.seal.ensures.0)
