-- `places`: the places that the walk along the list leaves, and behind them the end that it answers.
use Rattle.std.proofs.Common.{rules, arith, ap, length}
use Rattle.type_places.specs.Places.{ends_within}
use Rattle.locals.specs.Locals.{places_in, unit_room}
use Rattle.locals.proofs.places.Goals as goal

pub overflow_cast-out : goal.overflow_cast-out
overflow_cast-out c =
    let e = ap length c.function_types-signature.ensures.in_unit in
    omega (arith, unit_room c.args.unit.now, ends_within (omega arith) c.function_types-signature.result.types.stand c.type_places-end.ensures)

pub returns : goal.returns
returns c = search (rules, places_in)
