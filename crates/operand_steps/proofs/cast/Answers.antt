-- A cast: any integer is popped, and the leaf is pushed in its place; no other type will do.
use mathlib.Core.Path.{sym, ◌∙◌}
use Rattle.definitions.specs.TypeSafety as step
use Rattle.type_stack.specs.Stepping.{pop_then, check_then, check_bad}
use Rattle.operand_steps.specs.Operands.{operand, push_leaf}
use Rattle.operand_steps.proofs.cast.Goals as goal

pub returns-then-is_integer : goal.returns-then-is_integer
unfolding step.cast
returns-then-is_integer c =
    record {
      steps = λ t i. pop_then c.in_ok-top.ensures
          (λ u p. check_then _ _ (sym (c.is_integer.ensures (operand p)) ∙ c.if-is_integer.true) (push_leaf c.push_leaf.ensures i));
    }

pub returns : goal.returns
unfolding step.cast
returns c = record { steps = λ t i. pop_then c.in_ok-top.ensures (λ u p. check_bad _ (sym (c.is_integer.ensures (operand p)) ∙ c.if-is_integer.false)) }
