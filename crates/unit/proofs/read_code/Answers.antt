use Rattle.std.proofs.Common.{◌≡◌, sym, ap, ◌∙◌, ℕ, ◌+◌, arith}
use Rattle.definitions.specs.CompiledUnit as defs
use Rattle.definitions.specs.Commands.{commands_of}
use Rattle.definitions.specs.Reading.{read, u16}
use Rattle.definitions.specs.Reader.{instruction}
use Rattle.record_reader.specs.Alike.{u16_takes}
use Rattle.record_reader.specs.Ends.{reads_within, instruction_reaches}
use Rattle.unit.proofs.TableLoop.{same_refusal, got_next, got_refused}
use Rattle.unit.proofs.CodeLoop.{u16_next, code_start, code_more, code_refused, code_stops}
use Rattle.unit.proofs.CodeLoop.{code_stops_in, code_answers_refused, code_answers_read}
use Rattle.unit.proofs.read_code.Goals as goal
use Rattle.unit.proofs.read_code.Goals.{After-operand_widths-widths}

-- the count stands before the instructions
counts : (c : After-operand_widths-widths) → u16 c.args.s.now c.args.from ≡ read c.number_at-count.result (c.args.from + 2)
counts c = let b = c.in_ok-at.ensures.in_bounds in
    u16_next _ _ (omega (arith, b)) ∙ ap (λ (m : ℕ). read m (c.args.from + 2)) (sym c.number_at-count.ensures)

pub returns-in_err-at : goal.returns-in_err-at
returns-in_err-at c =
    rw (same_refusal c.from_residual.ensures.1)
    (code_answers_refused _ _ _ _ _ (λ h. code_stops _ _ _ (got_refused _ (c.in_err-at.ensures.value ∙ sym (u16_takes.alike _ _)))))

pub loop-n-init : goal.loop-n-init
loop-n-init c = λ h. code_start (instruction (commands_of h)) _ c.requires c.in_ok-at.ensures.in_bounds

pub returns-in_err-next : goal.returns-in_err-next
returns-in_err-next c =
    rw (same_refusal c.from_residual-in_err-next.ensures.1)
    (code_answers_refused _ _ _ _ _ (λ h.
    code_stops_in _ _ _ (counts (goal.at.returns-in_err-next c).After-operand_widths-widths)
    (code_refused (c.loop-n.invariant h) c.loop-n-test.true _ _ (got_refused _ (c.in_err-next.ensures h)))))

pub overflow_cast-index : goal.overflow_cast-index
overflow_cast-index c = let v = c.loop-n.invariant defs.Module in omega (arith, v.room.small)

pub bounds-index-base : goal.bounds-index-base
bounds-index-base c =
    let v = c.loop-n.invariant defs.Module in
    let g = got_next _ (c.in_ok-next.ensures defs.Module) in
    let ends = reads_within (instruction_reaches (commands_of defs.Module)) _ _ v.inside g.1 in
    omega (arith, v.room.below, v.room.wide, ends.far, ends.within)

pub loop-n-preserved : goal.loop-n-preserved
loop-n-preserved c =
    λ h.
    let g = got_next _ (c.in_ok-next.ensures h) in
    code_more (c.loop-n.invariant h) c.loop-n-test.true (instruction_reaches (commands_of h)) g.0 _ g.1

pub returns : goal.returns
returns c = code_answers_read _ _ _ _ _ (λ h. c.loop-n.invariant h) (counts (goal.at.returns c).After-operand_widths-widths) c.loop-n-test.false
