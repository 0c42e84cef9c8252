-- The stack is empty, or the operand is not the `&mut` asked for, or there is no such field handle, or the operand is a value, or the field
-- is borrowed from the struct that the operand refers to.
use Rattle.type_stack.specs.Answers.{exit_is}
use Rattle.type_stack.specs.Stepping.{pop_none, pop_then, check_then, look_then, look_bad}
use Rattle.type_stack.specs.Tops.{topped}
use Rattle.step_views.specs.Looked.{looked_bad}
use Rattle.field_steps.specs.Operand.{refused_early, passed, no_referent, a_reference}
use Rattle.field_steps.specs.Owners.{owner_then}
use Rattle.field_steps.specs.Program.{borrow_by_parts, by_parts}
use Rattle.field_steps.proofs.borrow_field.Goals as goal

pub returns-in_err-top : goal.returns-in_err-top
unfolding borrow_by_parts
returns-in_err-top c = rw (exit_is c.from_residual.ensures.1) (λ q. by_parts _ _ _ _ (pop_none c.in_err-top.ensures _))

pub returns-in_err-referent : goal.returns-in_err-referent
unfolding borrow_by_parts
returns-in_err-referent c =
    rw (exit_is c.from_residual-in_err-referent.ensures.1)
    (λ q. by_parts _ _ _ _ (pop_then c.in_ok-top.ensures (λ t h. refused_early h c.in_err-referent.ensures _)))

pub returns-in_err-owner : goal.returns-in_err-owner
unfolding borrow_by_parts
returns-in_err-owner c =
    rw (exit_is c.from_residual-in_err-owner.ensures.1)
    (λ q. by_parts _ _ _ _
    (pop_then c.in_ok-top.ensures
    (λ t h. check_then _ _ (passed h c.in_ok-referent.ensures) (looked_bad _ c.in_err-owner.ensures))))

pub returns-in_err-at : goal.returns-in_err-at
unfolding borrow_by_parts
returns-in_err-at c =
    rw (exit_is c.from_residual-in_err-at.ensures.1)
    (λ q. by_parts _ _ _ _
    (pop_then c.in_ok-top.ensures
    (λ t h. check_then _ _ (passed h c.in_ok-referent.ensures)
    (owner_then c.in_ok-owner.ensures _ (λ o. look_bad _ (no_referent h c.in_ok-referent.ensures c.in_err-at.ensures.value))))))

pub borrow_from-requires-clause-stacked : goal.borrow_from-requires-clause-stacked
borrow_from-requires-clause-stacked c =
    let o = topped c.requires.stacked c.in_ok-top.ensures in
    (o.under, (a_reference o.here c.in_ok-referent.ensures c.in_ok-at.ensures.value).span)

pub returns : goal.returns
unfolding borrow_by_parts
returns c =
    λ q. by_parts _ _ _ _
    (pop_then c.in_ok-top.ensures
    (λ t h. let n = a_reference h c.in_ok-referent.ensures c.in_ok-at.ensures.value in
    check_then _ _ n.passes
    (owner_then c.in_ok-owner.ensures _
    (λ o. look_then _ (rw n.is) (c.borrow_from.ensures.steps o q n.span)))))
