-- The second test is asked where the first says yes.
use mathlib.Core.Path.{sym, ◌∙◌}
use Rattle.signature_token.specs.Same.{spanned}
use Rattle.pair_steps.proofs.same_integers.Goals as goal

pub returns-then-is_integer : goal.returns-then-is_integer
returns-then-is_integer c = λ p q. rw (sym (c.is_integer.ensures (spanned p)) ∙ c.if-is_integer.true) (c.same_type.ensures p q)

pub returns-else-is_integer : goal.returns-else-is_integer
returns-else-is_integer c = λ p q. rw (sym (c.is_integer.ensures (spanned p)) ∙ c.if-is_integer.false) c.if-is_integer.false
