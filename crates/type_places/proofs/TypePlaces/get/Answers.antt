-- The type at the i-th place is the i-th of those that stand there.
use Rattle.type_places.specs.Arguments.{place_type}
use Rattle.type_places.proofs.TypePlaces.get.Goals as goal

pub invariant_of-result : goal.invariant_of-result
invariant_of-result c =
    let found = c.in_ok-get.ensures.lookup.3 in
    record { stands = rw (c.from-at.ensures, found.1 0) (place_type c.args.i found.0 c.args.self.stand.standing) }
