-- A popped reference of either kind is taken apart, and what it refers to is asked for copy and pushed; a value is refused.
use Rattle.definitions.specs.TypeSafety as step
use Rattle.type_stack.specs.Answers.{exit_is}
use Rattle.type_stack.specs.Stepping.{pop_then, look_then, look_bad, check_then, check_bad}
use Rattle.operand_steps.specs.Operands.{referent, inner_is, push_referent}
use Rattle.reference_steps.specs.Inner.{inner_room, refers_either, no_inner}
use Rattle.step_views.specs.Checks.{ability_then, ability_bad}
use Rattle.reference_steps.proofs.read_ref.Goals as goal

pub returns-in_default : goal.returns-in_default
unfolding step.read_ref
returns-in_default c = pop_then c.in_ok-top.ensures (λ t h. look_bad _ (rw (no_inner c.inner_of-operand.ensures h c.in_default.is)))

pub returns-in_err-check_ability : goal.returns-in_err-check_ability
unfolding step.read_ref
returns-in_err-check_ability c =
    rw (exit_is c.from_residual-in_err-check_ability.ensures.1)
    (pop_then c.in_ok-top.ensures
    (λ t h. let n = (refers_either c.inner_of-operand.ensures h c.in-Some.is).refers in
    look_then _ (rw (inner_is n)) (ability_bad (c.in_err-check_ability.ensures (referent n)) (λ set m. check_bad _ m))))

pub push_within-requires-clause-weight_le_from : goal.push_within-requires-clause-weight_le_from
push_within-requires-clause-weight_le_from c = inner_room c.requires c.in_ok-top.ensures c.inner_of-operand.ensures c.in-Some.is

pub returns : goal.returns
unfolding step.read_ref
returns c =
    pop_then c.in_ok-top.ensures
    (λ t h. let n = (refers_either c.inner_of-operand.ensures h c.in-Some.is).refers in
    look_then _ (rw (inner_is n))
    (ability_then (c.in_ok-check_ability.ensures (referent n))
    (λ set m. check_then _ _ m (push_referent n c.push_within.ensures))))
