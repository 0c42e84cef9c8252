-- An entry's length takes two bytes.
use Rattle.type_stack.specs.Tops.{top_number}
use Rattle.type_stack.proofs.pop.Goals as goal

pub overflow_sub-weight : goal.overflow_sub-weight
overflow_sub-weight c = (top_number c.requires c.if-weight-eq0.false).0
