-- A popped mutable reference is taken apart, and what it refers to is asked for drop and compared with the value below it; an operand of any
-- other kind is refused.
use mathlib.Core.Path.{refl, sym, ◌∙◌}
use Rattle.definitions.specs.TypeSafety as step
use Rattle.type_stack.specs.Answers.{exit_is}
use Rattle.type_stack.specs.Stepping.{two_then, look_then, look_bad, check_then, check_bad, check_last, check_last_bad}
use Rattle.operand_steps.specs.Operands.{span, referent, refers_mutably, mutable_is, no_mutable}
use Rattle.step_views.specs.Checks.{ability_then, ability_bad}
use Rattle.reference_steps.proofs.write_ref.Goals as goal

pub returns-in_default : goal.returns-in_default
unfolding step.write_ref
returns-in_default c =
    two_then c.in_ok-top.ensures (λ t u h k. look_bad _ (rw (no_mutable c.referent_of-reference.ensures h c.in_default.not-MutableReference)))

pub returns-in_err-check_ability : goal.returns-in_err-check_ability
unfolding step.write_ref
returns-in_err-check_ability c =
    rw (exit_is c.from_residual-in_err-check_ability.ensures.1)
    (two_then c.in_ok-top.ensures
    (λ t u h k. let n = refers_mutably c.referent_of-reference.ensures h c.in-MutableReference.is in
    look_then _ (rw (mutable_is n refl)) (ability_bad (c.in_err-check_ability.ensures (referent n)) (λ set m. check_bad _ m))))

pub returns-then-same_type : goal.returns-then-same_type
unfolding step.write_ref
returns-then-same_type c =
    two_then c.in_ok-top.ensures
    (λ t u h k. let n = refers_mutably c.referent_of-reference.ensures h c.in-MutableReference.is in
    look_then _ (rw (mutable_is n refl))
    (ability_then (c.in_ok-check_ability.ensures (referent n))
    (λ set m. check_then _ _ m (check_last _ (sym (c.same_type.ensures (span k) (referent n)) ∙ c.if-same_type.true)))))

pub returns : goal.returns
unfolding step.write_ref
returns c =
    two_then c.in_ok-top.ensures
    (λ t u h k. let n = refers_mutably c.referent_of-reference.ensures h c.in-MutableReference.is in
    look_then _ (rw (mutable_is n refl))
    (ability_then (c.in_ok-check_ability.ensures (referent n))
    (λ set m. check_then _ _ m (check_last_bad (sym (c.same_type.ensures (span k) (referent n)) ∙ c.if-same_type.false)))))
