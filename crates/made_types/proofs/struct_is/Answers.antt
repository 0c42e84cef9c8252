-- The operand is compared with the struct of the list's types.
use Rattle.made_types.specs.Pushes.{struct_same}
use Rattle.made_types.proofs.struct_is.Goals as goal

pub returns : goal.returns
returns c = struct_same _ c.new.result c.new.ensures.made c.is_at.ensures
