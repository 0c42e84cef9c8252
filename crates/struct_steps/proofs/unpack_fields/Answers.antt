-- Every field is instantiated, and then all are pushed.
use Rattle.type_stack.specs.Answers.{exit_is}
use Rattle.struct_steps.specs.Packing.{unpack_refused, unpack_made}
use Rattle.struct_steps.proofs.unpack_fields.Goals as goal

pub returns-in_err-instantiates_each : goal.returns-in_err-instantiates_each
returns-in_err-instantiates_each c = rw (exit_is c.from_residual.ensures.1) (unpack_refused c.placed-args.ensures c.in_err-instantiates_each.ensures)

pub returns : goal.returns
returns c = unpack_made c.placed-args.ensures c.in_ok-instantiates_each.ensures (rw c.rebuilt.ensures c.push_each-pushed.ensures)
