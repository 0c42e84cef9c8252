-- A bool is pushed in place of two integers of one type.
use mathlib.Core.Path.{sym, ◌∙◌}
use Rattle.definitions.specs.TypeSafety as step
use Rattle.signature_token.specs.TokenLaws.{is_bool}
use Rattle.type_stack.specs.Stepping.{two_then, check_then, check_bad}
use Rattle.operand_steps.specs.Operands.{operand, span, push_leaf}
use Rattle.pair_steps.proofs.comparison.Goals as goal

pub returns-then-same_integers : goal.returns-then-same_integers
unfolding step.comparison
returns-then-same_integers c =
    two_then c.in_ok-operand1.ensures
    (λ t u p q. check_then _ _ (sym (c.same_integers.ensures (span p) (operand q)) ∙ c.if-same_integers.true) (push_leaf c.push_leaf.ensures is_bool))

pub returns : goal.returns
unfolding step.comparison
returns c =
    two_then c.in_ok-operand1.ensures
    (λ t u p q. check_bad _ (sym (c.same_integers.ensures (span p) (operand q)) ∙ c.if-same_integers.false))
