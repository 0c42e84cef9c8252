use Rattle.std.proofs.Common.{◌+◌, ◌∙◌, arith}
use Rattle.definitions.specs.Commands.{commands_of}
use Rattle.unit.specs.Filled.{head_of}
use Rattle.unit.specs.Outline.{record_places}
use Rattle.unit.proofs.TableLoop.{same_refusal}
use Rattle.unit.proofs.TablesLoop.{tables_start, tables_more, tables_refused, tables_answer_refused, tables_answer}
use Rattle.unit.proofs.Filling.{Got, got_it, got_stop}
use Rattle.unit.proofs.read_tables.Goals as goal
use Rattle.unit.proofs.read_tables.Goals.{In_ok-table}

-- the table that was read in a turn
one : (c : In_ok-table) → Got c.args.s.now c.loop-i.index c.read_table.new.index c.loop-i.base
    (record_places (commands_of (head_of c.args.head)) (0x10 + c.loop-i.i) c.args.s.now c.loop-i.at) c.in_ok-table.table.count c.in_ok-table.table.next
one c = got_it _ c.loop-i.invariant.room c.in_ok-table.ensures.filled_by (omega (arith, c.read_table.auto)) c.in_ok-table.ensures.value

pub loop-i-init : goal.loop-i-init
loop-i-init c = tables_start _ c.requires.room c.requires.bases_value

pub returns-in_err-table : goal.returns-in_err-table
returns-in_err-table c =
    let t =
    tables_answer_refused (commands_of (head_of c.args.head)) c.args.s.now c.args.index.now c.read_table.new.index c.loop-i.bases
    (tables_refused c.loop-i.invariant c.loop-i-test.true (got_stop _ c.in_err-table.ensures.value)) in
    record { value = same_refusal c.from_residual.ensures.1 ∙ t.0; filled_by = t.1.0; rows_by = t.1.1 }

pub loop-i-preserved : goal.loop-i-preserved
loop-i-preserved c = tables_more c.loop-i.invariant c.loop-i-test.true (one (goal.at.loop-i-preserved c).In_ok-table)

pub returns : goal.returns
returns c =
    let t = tables_answer (commands_of (head_of c.args.head)) c.args.s.now c.args.index.now c.loop-i.invariant c.loop-i-test.false in
    record { value = t.0; filled_by = t.1.0; rows_by = t.1.1 }

pub overflow_add-base : goal.overflow_add-base
overflow_add-base c = let g = one (goal.at.overflow_add-base c).In_ok-table in omega (arith, g.room.below, g.room.inside, g.room.small)
