-- `function_types`: the list of the signature whose index stands in the function's record.
use Rattle.function_views.specs.Named.{named_here}
use Rattle.function_views.proofs.function_types.Goals as goal

pub returns-clause-are : goal.returns-clause-are
returns-clause-are c = named_here c.args.unit.now c.args.which (cc) c.place-p.ensures.value c.signature_at.ensures.are
