-- Every field is instantiated, then all are popped, and the struct is pushed.
use Rattle.std.specs.Prelude.{refl}
use Rattle.record_views.specs.Reread.{types_in}
use Rattle.type_stack.specs.Answers.{exit_is}
use Rattle.type_stack.specs.Stepping.{and_stacked}
use Rattle.struct_steps.specs.Packing.{pack_refused, pack_bad, pack_made}
use Rattle.struct_steps.proofs.pack_fields.Goals as goal

pub push_struct-requires-clause-stacked : goal.push_struct-requires-clause-stacked
push_struct-requires-clause-stacked c = and_stacked (c.in_ok-below.ensures.steps (types_in _)) c.requires.stacked refl refl

pub returns-in_err-instantiates_each : goal.returns-in_err-instantiates_each
returns-in_err-instantiates_each c = rw (exit_is c.from_residual.ensures.1) (pack_refused c.placed-args.ensures c.in_err-instantiates_each.ensures)

pub returns-in_err-below : goal.returns-in_err-below
returns-in_err-below c =
    rw (exit_is c.from_residual-in_err-below.ensures.1)
    (pack_bad c.placed-args.ensures c.in_ok-instantiates_each.ensures c.placed-args.result.stand c.in_err-below.ensures refl)

pub returns : goal.returns
returns c = pack_made c.placed-args.ensures c.in_ok-instantiates_each.ensures c.placed-args.result.stand c.in_ok-below.ensures refl c.push_struct.ensures
