-- A vector's command is one byte of the operand, and its element is what is left.
use Rattle.vector_elements.specs.Elements.{vector_room, vector_same}
use Rattle.vector_elements.proofs.vector_is.Goals as goal

pub overflow_sub-operand : goal.overflow_sub-operand
overflow_sub-operand c = vector_room c.in-Some.ensures c.requires

pub returns-in-Some : goal.returns-in-Some
returns-in-Some c = vector_same c.in-Some.ensures c.same_type.ensures
