-- An empty list pops nothing; the others take a table that has room for their places.
use Rattle.list_steps.specs.Pops.{pops_none}
use Rattle.list_steps.proofs.pop_each.Goals as goal

pub returns-then-n-eq0 : goal.returns-then-n-eq0
returns-then-n-eq0 over c = pops_none c.if-n-eq0.true
