-- `read_listing`: blocks, then code, then the unit ends, then the blocks are judged.
use Rattle.std.proofs.Common.{◌≡◌, ◌∙◌, ◌+◌, ◌-◌, arith}
use Rattle.definitions.specs.Commands.{commands_of}
use Rattle.definitions.specs.Reading.{read}
use Rattle.definitions.specs.Reader as reader
use Rattle.unit.specs.Filled.{head_of, Room}
use Rattle.unit.specs.Outline.{places, record_places}
use Rattle.unit.proofs.TableLoop.{same_refusal, got_next, got_refused}
use Rattle.unit.proofs.Filling.{Got, got_it, got_stop}
use Rattle.unit.proofs.Blocks.{got_judged, stop_judged}
use Rattle.unit.proofs.Listed.{code_room, blocks_at, listing_trailing, listing_answers}
use Rattle.unit.proofs.Listed.{listing_refused_1, listing_refused_2, listing_refused_3, listing_refused_4}
use Rattle.unit.proofs.read_listing.Goals as goal
use Rattle.unit.proofs.read_listing.Goals.{In_ok-blocks, In_ok-at_code, In_ok-code}

-- what was told of the blocks, of the command behind them, and of the code
blocks : (c : In_ok-blocks) → Got c.args.s.now c.args.index.now c.read_table.new.index c.args.base
    (record_places (commands_of (head_of c.args.head)) 0x1A c.args.s.now c.args.from) c.in_ok-blocks.blocks.count c.in_ok-blocks.blocks.next
blocks c = got_it _ c.requires c.in_ok-blocks.ensures.filled_by (omega (arith, c.read_table.auto)) c.in_ok-blocks.ensures.value

command : (c : In_ok-at_code) → (u : Unit {0}) × (reader.due (commands_of (head_of c.args.head)) 0x1B c.args.s.now c.in_ok-blocks.blocks.next ≡ read u c.in_ok-at_code.at_code)
command c = got_next _ c.in_ok-at_code.ensures

code : (c : In_ok-code) → Room c.args.s.now c.in_ok-at_code.at_code (c.args.base + c.in_ok-blocks.blocks.count) c.read_table.new.index →
    Got c.args.s.now c.read_table.new.index c.read_code.new.index (c.args.base + c.in_ok-blocks.blocks.count)
    (places (reader.code (commands_of (head_of c.args.head))) c.args.s.now c.in_ok-at_code.at_code) c.in_ok-code.code.count c.in_ok-code.code.next
code c room =
    let told = c.in_ok-code.ensures in
    got_it _ room (told.fills _) (omega (arith, c.read_code.auto)) (told.answers _)

pub overflow_add-base : goal.overflow_add-base
overflow_add-base c = let g = blocks (goal.at.overflow_add-base c).In_ok-blocks in omega (arith, g.room.below, g.room.inside, g.room.small)

pub overflow_add-base-2 : goal.overflow_add-base-2
overflow_add-base-2 c = let g = blocks (goal.at.overflow_add-base-2 c).In_ok-blocks in omega (arith, g.room.below, g.room.inside, g.room.small)

pub read_code-requires : goal.read_code-requires
read_code-requires c =
    code_room _ _ _ (blocks (goal.at.read_code-requires c).In_ok-blocks) (command (goal.at.read_code-requires c).In_ok-at_code).1

pub returns-then-code-s : goal.returns-then-code-s
returns-then-code-s c =
    let here = goal.at.returns-then-code-s c in
    let g = blocks here.In_ok-blocks in
    let d = (command here.In_ok-at_code).1 in
    let k = code here.In_ok-code (code_room _ _ _ g d) in
    let t = listing_trailing _ _ _ g d k c.read_code.new.index c.if-code-s.true in
    record { value = t.0; filled_by = t.1 }

pub check_blocks-requires : goal.check_blocks-requires
check_blocks-requires c =
    let here = goal.at.check_blocks-requires c in
    let g = blocks here.In_ok-blocks in
    let d = (command here.In_ok-at_code).1 in
    let z : c.args.base + c.in_ok-blocks.blocks.count - c.args.base ≡ c.in_ok-blocks.blocks.count = omega arith in
    rw z (blocks_at _ _ _ g d (code here.In_ok-code (code_room _ _ _ g d)) c.if-code-s.false)

pub slice_bounds-check_blocks-end : goal.slice_bounds-check_blocks-end
slice_bounds-check_blocks-end c =
    let here = goal.at.slice_bounds-check_blocks-end c in
    let g = blocks here.In_ok-blocks in
    let k = code here.In_ok-code (code_room _ _ _ g (command here.In_ok-at_code).1) in
    omega (arith, k.inside, k.long)

pub returns-in_err-blocks : goal.returns-in_err-blocks
returns-in_err-blocks c =
    let t =
    listing_refused_1 (commands_of (head_of c.args.head)) c.args.s.now c.args.from c.args.base c.args.index.now c.read_table.new.index
    (got_stop _ c.in_err-blocks.ensures.value) in
    record { value = same_refusal c.from_residual.ensures.1 ∙ t.0; filled_by = t.1 }

pub returns-in_err-at_code : goal.returns-in_err-at_code
returns-in_err-at_code c =
    let g = blocks (goal.at.returns-in_err-at_code c).In_ok-blocks in
    let t = listing_refused_2 _ _ _ g c.read_table.new.index (got_refused _ c.in_err-at_code.ensures) in
    record { value = same_refusal c.from_residual-in_err-at_code.ensures.1 ∙ t.0; filled_by = t.1 }

pub returns-in_err-code : goal.returns-in_err-code
returns-in_err-code c =
    let here = goal.at.returns-in_err-code c in
    let d = (command here.In_ok-at_code).1 in
    let q = got_stop _ (c.in_err-code.ensures.answers (head_of c.args.head)) in
    let t = listing_refused_3 _ _ _ (blocks here.In_ok-blocks) d c.read_code.new.index q in
    record { value = same_refusal c.from_residual-in_err-code.ensures.1 ∙ t.0; filled_by = t.1 }

pub returns-in_err-check_blocks : goal.returns-in_err-check_blocks
returns-in_err-check_blocks c =
    let here = goal.at.returns-in_err-check_blocks c in
    let g = blocks here.In_ok-blocks in
    let d = (command here.In_ok-at_code).1 in
    let k = code here.In_ok-code (code_room _ _ _ g d) in
    let z : c.args.base + c.in_ok-blocks.blocks.count - c.args.base ≡ c.in_ok-blocks.blocks.count = omega arith in
    let told = rw z at c.in_err-check_blocks.ensures in
    let q = stop_judged (told (blocks_at _ _ _ g d k c.if-code-s.false) _) in
    let t = listing_refused_4 _ _ _ g d k c.if-code-s.false c.read_code.new.index q in
    record { value = same_refusal c.from_residual-in_err-check_blocks.ensures.1 ∙ t.0; filled_by = t.1 }

pub returns : goal.returns
returns c =
    let here = goal.at.returns c in
    let g = blocks here.In_ok-blocks in
    let d = (command here.In_ok-at_code).1 in
    let k = code here.In_ok-code (code_room _ _ _ g d) in
    let z : c.args.base + c.in_ok-blocks.blocks.count - c.args.base ≡ c.in_ok-blocks.blocks.count = omega arith in
    let told = rw z at c.in_ok-check_blocks.ensures in
    let q = got_judged (told (blocks_at _ _ _ g d k c.if-code-s.false) _) in
    let t = listing_answers _ _ _ g d k c.if-code-s.false q.2 in
    record { value = t.0; filled_by = t.1 }
