-- The field's type is measured and written behind the reference's command, or there is none, or no room for both.
use Prim.Native.Nat.{◌+◌}
use native.Mathlib.Omega.{arith}
use mathlib.Core.List.{◌∷◌}
use mathlib.Core.Path.{refl}
use Rattle.substitution.specs.Size.{size_room}
use Rattle.type_stack.specs.Pushing.{push_over, push_lent_under}
use Rattle.made_types.specs.Pushes.{free_long, field_pushed}
use Rattle.made_types.proofs.push_field_reference.Goals as goal

pub returns-then-area-weight : goal.returns-then-area-weight
returns-then-area-weight c =
    field_pushed c.in_ok-len.ensures c.reference_command-command.ensures (λ f l. push_over (_ ∷ f.bytes) refl c.requires (omega arith))

pub instantiate_into-requires : goal.instantiate_into-requires
instantiate_into-requires c =
    let long = free_long c.put_command.new.area (c.args.weight + 1) in
    size_room c.in_ok-len.ensures c.args.ty.stands c.args.args.stand (omega (arith, long)) (omega (arith, c.requires.small, long))

pub returns : goal.returns
returns c =
    field_pushed c.in_ok-len.ensures c.reference_command-command.ensures (λ f l.
    push_lent_under _ f.bytes (omega (arith, c.requires.small)) (omega arith) c.put_command.ensures
    (c.instantiate_into.ensures.is (record { filling = f; fits = omega (arith, free_long c.put_command.new.area (c.args.weight + 1), c.requires.small) }))
    c.seal.ensures.1 c.seal.ensures.0)
