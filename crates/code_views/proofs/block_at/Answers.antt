-- `block_at`: the two numbers behind the record's command, which the reader found in order.
use Rattle.std.proofs.Common.{rules}
use Rattle.code_views.specs.Lookups.{block_here}
use Rattle.code_views.proofs.block_at.Goals as goal

pub returns : goal.returns
returns c = search (rules, block_here)
