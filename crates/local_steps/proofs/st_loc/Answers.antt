-- The stack is empty, or there is no such local, or the popped type is compared with it.
use Rattle.definitions.specs.TypeSafety as step
use mathlib.Core.Path.{sym, ◌∙◌}
use Rattle.type_stack.specs.Answers.{exit_is}
use Rattle.type_stack.specs.Stepping.{pop_then, check_last, check_last_bad}
use Rattle.operand_steps.specs.Operands.{span}
use Rattle.step_views.specs.Looked.{looked_then, looked_bad}
use Rattle.locals.specs.Locals.{local_here}
use Rattle.local_steps.proofs.st_loc.Goals as goal

pub returns-in_err-local : goal.returns-in_err-local
unfolding step.st_loc
returns-in_err-local c =
    rw (exit_is c.from_residual-in_err-local.ensures.1) (pop_then c.in_ok-top.ensures (λ t p. looked_bad _ c.in_err-local.ensures))

pub returns-then-same_type : goal.returns-then-same_type
unfolding step.st_loc
returns-then-same_type c =
    pop_then c.in_ok-top.ensures
    (λ t p. looked_then _ c.in_ok-local.ensures
    (λ u l. check_last _ (sym (c.same_type.ensures (span p) (local_here l)) ∙ c.if-same_type.true)))

pub returns : goal.returns
unfolding step.st_loc
returns c =
    pop_then c.in_ok-top.ensures
    (λ t p. looked_then _ c.in_ok-local.ensures
    (λ u l. check_last_bad (sym (c.same_type.ensures (span p) (local_here l)) ∙ c.if-same_type.false)))
