-- `instruction_at`: where there is room for the longest operands, every kind is read.
use Rattle.std.proofs.Common.{refl, ap, ◌∙◌, arith}
use Rattle.record_reader.specs.Apart.{number_of}
use Rattle.record_views.specs.Reread.{reread, is_here}
use Rattle.record_views.proofs.instruction_at.Goals as goal

pub overflow_sub-s : goal.overflow_sub-s
overflow_sub-s c = omega (arith, (reread c.requires).within)

pub returns-then-s-at-gt10 : goal.returns-then-s-at-gt10
returns-then-s-at-gt10 c =
    λ p. let x = c.u16_at.ensures in
    let n = c.u64_at.ensures ∙ ap (number_of 8 _) (omega arith) in
    is_here p refl (λ k. refl) (λ k. x) (λ k. (x, n))
