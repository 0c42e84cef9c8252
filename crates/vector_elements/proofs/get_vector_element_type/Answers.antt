-- Each answer follows from that of `referent_of`, and then of the look at the vector.
use Rattle.vector_elements.specs.Elements.{by_reference, by_mutable, not_mutable}
use Rattle.vector_elements.proofs.get_vector_element_type.Goals as goal

pub returns-then-mut_ref_only : goal.returns-then-mut_ref_only
returns-then-mut_ref_only c = not_mutable c.in-Reference.ensures c.if-mut_ref_only.true

pub returns-else-mut_ref_only : goal.returns-else-mut_ref_only
returns-else-mut_ref_only c = by_reference c.in-Reference.ensures c.if-mut_ref_only.false c.vector_element.ensures

pub returns-in-MutableReference : goal.returns-in-MutableReference
returns-in-MutableReference c = by_mutable c.in-MutableReference.ensures c.vector_element-in-MutableReference.ensures
