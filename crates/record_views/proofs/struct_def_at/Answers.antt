-- `struct_def_at`: the answer is the definition that was read there.
use Rattle.record_views.specs.Reread.{def_native, def_declared, def_list}
use Rattle.record_views.proofs.struct_def_at.Goals.{then-s-at-eq0, else-s-at-eq0}
use Rattle.record_views.proofs.struct_def_at.Goals as goal

pub signature_at-requires : goal.signature_at-requires
signature_at-requires c = def_list c.requires.def_at c.if-s-at-eq0.false

pub returns-clause-is : goal.returns-clause-is
returns-clause-is c =
    λ p. elim c.if-s-at-eq0.branch [
      | then-s-at-eq0 w ↦ def_native p w.if-s-at-eq0.true c.u16_at.ensures w.result-is
      | else-s-at-eq0 w ↦ def_declared p w.if-s-at-eq0.false c.u16_at.ensures w.result-is w.signature_at.ensures.are
    ]
