-- The part that is compared lies within its bytes.
use native.Mathlib.Omega.{arith}
use Rattle.signature_token.specs.Same.{span_within}
use Rattle.type_tests.proofs.same_type.Goals as goal

pub overflow_add-x : goal.overflow_add-x
overflow_add-x c = omega (arith, span_within c.requires)

pub slice_bounds-starts_with-end-2 : goal.slice_bounds-starts_with-end-2
slice_bounds-starts_with-end-2 c = omega (arith, span_within c.requires)
