-- The command's bytes and those of the arguments.
use native.Mathlib.Omega.{arith}
use Rattle.materialize_type.proofs.Materialize.{length_short, size_between}
use Rattle.materialize_type.proofs.materialized_size.Goals as goal

pub overflow_add-result : goal.overflow_add-result
overflow_add-result c = omega (arith, c.requires.1, length_short c.command_length.ensures)

pub returns : goal.returns
returns c = size_between c.command_length.ensures
