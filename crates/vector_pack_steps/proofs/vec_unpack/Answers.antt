-- A vector of the named element is popped, and its element pushed so many times.
use mathlib.Core.Path.{sym, ◌∙◌}
use Rattle.definitions.specs.TypeSafety as step
use Rattle.type_stack.specs.Answers.{exit_is}
use Rattle.type_stack.specs.Stepping.{pop_then, check_then, check_bad}
use Rattle.operand_steps.specs.Operands.{span}
use Rattle.step_views.specs.Looked.{type_then, looked_bad}
use Rattle.vector_pack_steps.proofs.vec_unpack.Goals as goal

pub returns-in_err-declared : goal.returns-in_err-declared
unfolding step.vec_unpack
returns-in_err-declared c = rw (exit_is c.from_residual-in_err-declared.ensures.1) (pop_then c.in_ok-top.ensures (λ t h. looked_bad _ c.in_err-declared.ensures.value))

pub returns-then-vector_is : goal.returns-then-vector_is
unfolding step.vec_unpack
returns-then-vector_is c =
    pop_then c.in_ok-top.ensures
    (λ t h. type_then _ c.in_ok-declared.ensures.value
    (λ q. check_then _ _ (sym (c.vector_is.ensures.is (span h) q) ∙ c.if-vector_is.true)
    (c.push_many.ensures q.type (sym (c.encoded.ensures.is q)))))

pub returns : goal.returns
unfolding step.vec_unpack
returns c =
    pop_then c.in_ok-top.ensures
    (λ t h. type_then _ c.in_ok-declared.ensures.value
    (λ q. check_bad _ (sym (c.vector_is.ensures.is (span h) q) ∙ c.if-vector_is.false)))
