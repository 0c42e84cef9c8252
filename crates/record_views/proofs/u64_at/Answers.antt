-- `u64_at`: eight bytes make up the u64.
use Rattle.std.proofs.Common.{◌∙◌, sym}
use Rattle.record_views.specs.Reread.{eight_bytes}
use Rattle.record_views.proofs.u64_at.Goals as goal

pub returns : goal.returns
returns c = c.from_le_bytes.ensures ∙ sym (eight_bytes c.args.s.now c.args.at)
