use Rattle.std.proofs.Common.{◌≡◌, refl, sym, ◌∙◌, true}
use Rattle.definitions.specs.Commands.{commands_of, known}
use Rattle.record_reader.specs.Bodies.{body_of}
use Rattle.record_reader.specs.Ends.{body_reaches}
use Rattle.unit.specs.Filled.{head_of}
use Rattle.unit.proofs.TableLoop.{same_refusal, got_next, got_refused, table_start, table_more, table_refused, table_past, table_other, starts_size, table_filled}
use Rattle.unit.proofs.TableLoop.{answers_read, answers_refused, filled_none, places_unknown, places_refused, places_read}
use Rattle.unit.proofs.read_table.Goals as goal
use Rattle.unit.proofs.read_table.Goals.{Else-not-is_known}

-- the command is known under the head
opens : (c : Else-not-is_known) → known (commands_of (head_of c.args.head)) c.args.command ≡ true
opens c = sym c.is_known.ensures ∙ c.if-not-is_known.false

pub returns-then-not-is_known : goal.returns-then-not-is_known
returns-then-not-is_known c =
    let q = sym c.is_known.ensures ∙ c.if-not-is_known.true in
    let t = answers_read c.args.s.now c.args.index.now c.args.index.now c.args.base _ (places_unknown _ _ _ _ q) refl (filled_none c.requires) in
    record { value = t.0; filled_by = t.1 }

pub loop-at-init : goal.loop-at-init
loop-at-init c = λ h. table_start (body_of (commands_of h) _) _ c.requires

pub returns-in_err-next : goal.returns-in_err-next
returns-in_err-next c =
    let v = c.loop-at.invariant (head_of c.args.head) in
    let r = got_refused _ (c.in_err-next.ensures (head_of c.args.head)) in
    let q = table_refused v c.loop-at-test.true c.if-s-at.true _ _ r in
    let t =
    answers_refused c.args.s.now c.args.index.now c.loop-at.index c.args.base _
    (places_refused _ _ _ _ (opens (goal.at.returns-in_err-next c).Else-not-is_known) q) in
    record { value = same_refusal c.from_residual.ensures.1 ∙ t.0; filled_by = t.1 }

pub loop-at-preserved : goal.loop-at-preserved
loop-at-preserved c =
    λ h.
    let g = got_next _ (c.in_ok-next.ensures h) in
    table_more (c.loop-at.invariant h) c.loop-at-test.true c.if-s-at.true (body_reaches (commands_of h) _) g.0 _ g.1

pub returns-else-s-at : goal.returns-else-s-at
returns-else-s-at c =
    let v = c.loop-at.invariant (head_of c.args.head) in
    let q = places_read _ _ _ _ (opens (goal.at.returns-else-s-at c).Else-not-is_known) (table_other v c.loop-at-test.true c.if-s-at.false) in
    let t = answers_read c.args.s.now c.args.index.now c.loop-at.index c.args.base _ q (starts_size v.acc v.size) (table_filled v) in
    record { value = t.0; filled_by = t.1 }

pub returns-after-loop-at : goal.returns-after-loop-at
returns-after-loop-at c =
    let v = c.loop-at.invariant (head_of c.args.head) in
    let q = places_read _ _ _ _ (opens (goal.at.returns-after-loop-at c).Else-not-is_known) (table_past v c.loop-at-test.false) in
    let t = answers_read c.args.s.now c.args.index.now c.loop-at.index c.args.base _ q (starts_size v.acc v.size) (table_filled v) in
    record { value = t.0; filled_by = t.1 }
