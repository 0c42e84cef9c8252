use borrow.Author.Rules.{rules}
use Rattle.list_steps.specs.Pushes.{writing_start, writing_fits, writing_room, writing_next, writing_done}
use Rattle.list_steps.proofs.write_each.Goals as goal

pub loop-init : goal.loop-init
loop-init c = writing_start c.requires.stacked c.requires.all_fit

pub invariant_of-ty : goal.invariant_of-ty
invariant_of-ty c =
    record { stands = (writing_room c.loop.invariant c.loop-test.true c.requires.stacked.small c.args.args.stand).filling.from }

pub instantiate_into-written-requires : goal.instantiate_into-written-requires
instantiate_into-written-requires c = writing_room c.loop.invariant c.loop-test.true c.requires.stacked.small c.args.args.stand

pub seal-after-requires : goal.seal-after-requires
seal-after-requires c =
    let k = writing_fits c.loop.invariant c.loop-test.true c.requires.stacked.small c.instantiate_into-written.ensures c.args.args.stand in
    search (rules, k)

pub loop-preserved : goal.loop-preserved
loop-preserved c =
    writing_next c.loop.invariant c.loop-test.true c.requires.stacked.small c.instantiate_into-written.ensures
    c.args.args.stand c.seal-after.ensures.0 c.seal-after.ensures.1

pub returns : goal.returns
returns c = writing_done c.loop.invariant c.loop-test.false
