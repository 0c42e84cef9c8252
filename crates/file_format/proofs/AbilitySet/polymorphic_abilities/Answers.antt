-- The pairs are met left to right, as the definition has it.
use Rattle.std.proofs.Common.{arith, rules, tests, ◌∙◌, ap, Ok}
use Rattle.std.proofs.lemmas.Iterator.{YieldsList-from_slice, YieldsList-from_zip}
use Rattle.std.proofs.lemmas.Iterator.Consumers.{fold_from_yields_List}
use Rattle.file_format.proofs.Sets.{met, met_all, equal}
use Rattle.file_format.proofs.AbilitySet.polymorphic_abilities.Goals as goal

pub returns : goal.returns
returns c =
    let phantoms = c.args.phantoms.now in
    let sets = c.args.sets.now in
    let e =
    fold_from_yields_List _ met _ _ c.fold.ensures.ran (YieldsList-from_zip (YieldsList-from_slice phantoms cc) (YieldsList-from_slice sets cc))
    (λ a x b q k. search (rules, tests)) in
    rw (equal c.args.declared.0 phantoms sets (omega arith)) (ap Ok (e ∙ met_all c.args.declared phantoms sets))
