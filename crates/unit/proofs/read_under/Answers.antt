-- `read_under`: tables, the function, blocks and code, in the order of the definition.
use Rattle.std.proofs.Common.{◌≡◌, refl, sym, ap, ◌∙◌, get_or, arith}
use Rattle.definitions.specs.CompiledUnit as defs
use Rattle.definitions.specs.Commands.{commands_of}
use Rattle.definitions.specs.Reading.{read}
use Rattle.definitions.specs.Reader.{due, function_view, items}
use Rattle.unit.specs.declared.Table.{Table}
use Rattle.unit.specs.Outline.{unit_listing}
use Rattle.unit.specs.Filled.{head_of}
use Rattle.unit.proofs.TableLoop.{same_refusal, got_next, got_refused}
use Rattle.unit.proofs.Whole.{GotTables, got_tables, refused_tables, GotListing, got_listing, refused_listing, tables_ordered, signature_count_law, listing_room, counts_fit}
use Rattle.unit.proofs.Whole.{under_refused_1, under_refused_2, under_refused_3, under_refused_4, under_answers}
use Rattle.unit.proofs.read_under.Goals as goal
use Rattle.unit.proofs.read_under.Goals.{In_ok-function, In_ok-body, In_ok-end, In_ok-listing}

-- what was told of the tables, of the command behind them, of the function, and of the listing
tables : (c : In_ok-function) → GotTables c.args.s.now c.args.index.now c.read_tables.new.index c.read_tables.new.bases (commands_of (head_of c.args.head)) c.in_ok-function.function
tables c =
    let told = c.in_ok-function.ensures in
    got_tables _ _ told.value told.filled_by told.rows_by (omega (arith, c.read_tables.auto)) refl

command : (c : In_ok-body) → (u : Unit {0}) × (due (commands_of (head_of c.args.head)) 0x19 c.args.s.now c.in_ok-function.function ≡ read u c.in_ok-body.body)
command c = got_next _ c.in_ok-body.ensures

function :
    (c : In_ok-end) → (g : GotTables c.args.s.now c.args.index.now c.read_tables.new.index c.read_tables.new.bases (commands_of (head_of c.args.head)) c.in_ok-function.function) →
    (v : defs.FunctionView) × (function_view (items g.tables.signatures) c.args.s.now c.in_ok-body.body ≡ read v c.in_ok-end.end)
function c g = got_next _ (c.in_ok-end.ensures _ (signature_count_law _ _ g ∙ sym (c.from-signatures.ensures ∙ ap (λ (t : Table). t.count) c.table.ensures)))

listing :
    (c : In_ok-listing) → GotListing c.args.s.now c.read_tables.new.index c.read_listing.new.index (get_or c.read_tables.new.bases 9 0)
    (unit_listing (commands_of (head_of c.args.head)) c.args.s.now c.in_ok-end.end) c.in_ok-listing.listing.blocks c.in_ok-listing.listing.code
listing c = got_listing _ c.in_ok-listing.ensures.value c.in_ok-listing.ensures.filled_by refl

pub invariant_of-bases : goal.invariant_of-bases
invariant_of-bases c = record { ordered = tables_ordered _ _ (tables (goal.at.invariant_of-bases c).In_ok-function) c.requires }

pub read_listing-requires : goal.read_listing-requires
read_listing-requires c =
    let here = goal.at.read_listing-requires c in
    let g = tables here.In_ok-function in
    listing_room _ _ g (command here.In_ok-body).1 (function here.In_ok-end g).1 c.requires

pub view-requires : goal.view-requires
view-requires c =
    let here = goal.at.view-requires c in
    let g = tables here.In_ok-function in
    counts_fit _ _ g (command here.In_ok-body).1 (function here.In_ok-end g).1 (listing here.In_ok-listing) c.requires.small

pub returns-in_err-function : goal.returns-in_err-function
returns-in_err-function c =
    let q = refused_tables c.args.s.now (commands_of (head_of c.args.head)) c.in_err-function.ensures.value refl in
    let t = under_refused_1 (head_of c.args.head) c.args.s.now c.read_tables.new.index q in
    record { value = same_refusal c.from_residual.ensures.1 ∙ t.0; indexed = t.1 }

pub returns-in_err-body : goal.returns-in_err-body
returns-in_err-body c =
    let g = tables (goal.at.returns-in_err-body c).In_ok-function in
    let t = under_refused_2 (head_of c.args.head) _ g c.read_tables.new.index (got_refused _ c.in_err-body.ensures) in
    record { value = same_refusal c.from_residual-in_err-body.ensures.1 ∙ t.0; indexed = t.1 }

pub returns-in_err-end : goal.returns-in_err-end
returns-in_err-end c =
    let here = goal.at.returns-in_err-end c in
    let g = tables here.In_ok-function in
    let q = got_refused _ (c.in_err-end.ensures _ (signature_count_law (head_of c.args.head) _ g ∙ sym (c.from-signatures.ensures ∙ ap (λ (t : Table). t.count) c.table.ensures))) in
    let t = under_refused_3 (head_of c.args.head) _ g (command here.In_ok-body).1 c.read_tables.new.index q in
    record { value = same_refusal c.from_residual-in_err-end.ensures.1 ∙ t.0; indexed = t.1 }

pub returns-in_err-listing : goal.returns-in_err-listing
returns-in_err-listing c =
    let here = goal.at.returns-in_err-listing c in
    let g = tables here.In_ok-function in
    let q = refused_listing _ c.in_err-listing.ensures.value refl in
    let t = under_refused_4 (head_of c.args.head) _ g (command here.In_ok-body).1 (function here.In_ok-end g).1 c.read_listing.new.index q in
    record { value = same_refusal c.from_residual-in_err-listing.ensures.1 ∙ t.0; indexed = t.1 }

pub returns : goal.returns
returns c =
    let here = goal.at.returns c in
    let g = tables here.In_ok-function in
    let f = (function here.In_ok-end g).1 in
    let t = under_answers (head_of c.args.head) _ g (command here.In_ok-body).1 f (listing here.In_ok-listing) c.args.head refl c.view.ensures in
    record { value = t.0; indexed = t.1 }
