-- `instruction_at`: the instruction that stands at its place.
use Rattle.std.proofs.Common.{rules}
use Rattle.code_views.specs.Lookups.{instruction_is}
use Rattle.code_views.proofs.instruction_at.Goals as goal

pub returns : goal.returns
returns c = search (rules, instruction_is)
