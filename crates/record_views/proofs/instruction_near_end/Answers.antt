-- `instruction_near_end`: operands that don't fit before the end are not the instruction's, which was read.
use Rattle.std.proofs.Common.{refl, arith, rules}
use Rattle.std.proofs.lemmas.Grind.{common_steps}
use Rattle.record_views.specs.Reread.{reread, is_here}
use Rattle.record_views.proofs.instruction_near_end.Goals as goal

pub bounds-s-at : goal.bounds-s-at
bounds-s-at c = (reread c.requires.0).within

pub overflow_sub-left : goal.overflow_sub-left
overflow_sub-left c = omega (arith, (reread c.requires.0).within)

pub returns-then-left-gt2 : goal.returns-then-left-gt2
returns-then-left-gt2 c =
    λ p. is_here p refl (λ k. grind (arith, common_steps)) (λ k. c.u16_at.ensures)
    (λ k. absurd (omega (arith, (reread p).room, c.requires.1)))

pub returns-else-left-gt2 : goal.returns-else-left-gt2
returns-else-left-gt2 c =
    λ p. is_here p refl (λ k. grind (arith, common_steps)) (λ k. absurd (omega (arith, (reread p).room)))
    (λ k. absurd (omega (arith, (reread p).room)))

pub overflow_add-at : goal.overflow_add-at
overflow_add-at c = let h = (reread c.requires.0).within in search rules
