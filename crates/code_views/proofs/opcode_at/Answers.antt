-- `opcode_at`: the byte that stands at the instruction's place.
use Rattle.std.proofs.Common.{rules}
use Rattle.code_views.specs.Lookups.{opcode_is}
use Rattle.code_views.proofs.opcode_at.Goals as goal

pub returns : goal.returns
returns c = search (rules, opcode_is)
