-- The two commands are two bytes of the operand.
use Rattle.vector_elements.specs.Elements.{element_room}
use Rattle.vector_elements.proofs.element_is.Goals as goal

pub overflow_sub-operand : goal.overflow_sub-operand
overflow_sub-operand c = element_room c.in-Some.ensures c.requires
