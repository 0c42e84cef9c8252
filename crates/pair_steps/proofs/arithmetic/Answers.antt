-- What is pushed is the lower of two integers of one type, which stands there already.
use mathlib.Core.Path.{sym, ◌∙◌}
use Rattle.std.specs.Prelude.{◌≡◌, Bool, ◌&&◌, true, false}
use Rattle.definitions.specs.TypeSafety as step
use Rattle.definitions.specs.SignatureToken.{SignatureToken, same, is_integer}
use Rattle.signature_token.specs.Same.{same_is}
use Rattle.type_stack.specs.Stepping.{two_then, check_then, check_bad}
use Rattle.operand_steps.specs.Operands.{operand, span, push_second}
use Rattle.pair_steps.proofs.arithmetic.Goals as goal

-- what the test says of them where it says yes
equal_types : (t u : SignatureToken) → (is_integer t && same t u) ≡ true → t ≡ u
equal_types t u e = go (is_integer t) e
  where
    go : (b : Bool) → (b && same t u) ≡ true → t ≡ u
    go true f = same_is t u f
    go false f = absurd cc

pub returns-then-same_integers : goal.returns-then-same_integers
unfolding step.arithmetic
returns-then-same_integers c =
    two_then c.in_ok-operand1.ensures
    (λ t u p q. let e = sym (c.same_integers.ensures (span p) (operand q)) ∙ c.if-same_integers.true in
    check_then _ _ e (push_second c.requires c.in_ok-operand1.ensures q (equal_types t u e)))

pub returns : goal.returns
unfolding step.arithmetic
returns c =
    two_then c.in_ok-operand1.ensures
    (λ t u p q. check_bad _ (sym (c.same_integers.ensures (span p) (operand q)) ∙ c.if-same_integers.false))
