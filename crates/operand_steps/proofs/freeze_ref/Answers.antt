-- A mutable reference is pushed again with the command of an immutable one; an operand of any other kind is refused.
use mathlib.Core.Path.{refl}
use Rattle.definitions.specs.TypeSafety as step
use Rattle.type_stack.specs.Stepping.{pop_then, look_then, look_bad}
use Rattle.operand_steps.specs.Operands.{refers_mutably, mutable_is, no_mutable, push_frozen}
use Rattle.operand_steps.proofs.freeze_ref.Goals as goal

pub returns-in_default : goal.returns-in_default
unfolding step.freeze_ref
returns-in_default c =
    pop_then c.in_ok-top.ensures
    (λ t p. look_bad _ (rw (no_mutable c.referent_of.ensures p c.in_default.not-MutableReference)))

pub returns : goal.returns
unfolding step.freeze_ref
returns c =
    pop_then c.in_ok-top.ensures
    (λ t p. let n = refers_mutably c.referent_of.ensures p c.in-MutableReference.is in
    look_then _ (rw (mutable_is n refl)) (push_frozen n c.push_retagged.ensures))
