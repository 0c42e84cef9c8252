-- `type_list`: whatever list was read at that place is where the answer says.
use Rattle.std.proofs.Common.{refl, arith}
use Rattle.record_views.specs.Reread.{list_read}
use Rattle.record_views.proofs.type_list.Goals as goal

pub returns : goal.returns
returns c = list_read (λ i. omega (arith, c.type_inv.s i)) c.args.at refl c.from.ensures
