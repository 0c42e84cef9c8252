-- `read`: the length and the head are judged first; what is left is `read_under`.
use Rattle.std.proofs.Common.{sym, ap, ◌∙◌, arith, Err}
use Rattle.unit.proofs.TableLoop.{same_refusal}
use Rattle.unit.proofs.Whole.{unit_refused, read_long, read_empty, read_module, read_script, read_unopened, read_as}
use Rattle.unit.proofs.read.Goals as goal

pub returns-then-s-gt32768 : goal.returns-then-s-gt32768
returns-then-s-gt32768 c =
    let t = unit_refused c.args.index.now _ (read_long c.args.s.now c.if-s-gt32768.true) in
    record { value = t.0; indexed = t.1 }

pub returns-in_err-byte_at : goal.returns-in_err-byte_at
returns-in_err-byte_at c =
    let e = c.in_err-byte_at.ensures in
    let t = unit_refused c.args.index.now _ (read_empty c.args.s.now c.if-s-gt32768.false e.0) in
    record { value = same_refusal c.from_residual.ensures.1 ∙ ap Err e.1 ∙ t.0; indexed = t.1 }

pub returns-in-1 : goal.returns-in-1
returns-in-1 c =
    let b = c.in_ok-byte_at.ensures in
    let r = c.read_under.ensures in
    let t = read_as c.read_under.new.index _ (read_module c.args.s.now c.if-s-gt32768.false b.0 (sym b.1 ∙ c.in-1.is)) r.value r.indexed in
    record { value = t.0; indexed = t.1 }

pub returns-in-2 : goal.returns-in-2
returns-in-2 c =
    let b = c.in_ok-byte_at.ensures in
    let r = c.read_under-in-2.ensures in
    let t = read_as c.read_under-in-2.new.index _ (read_script c.args.s.now c.if-s-gt32768.false b.0 (sym b.1 ∙ c.in-2.is)) r.value r.indexed in
    record { value = t.0; indexed = t.1 }

pub returns-in_default : goal.returns-in_default
returns-in_default c =
    let b = c.in_ok-byte_at.ensures in
    let t = unit_refused c.args.index.now _ (read_unopened c.args.s.now c.if-s-gt32768.false b.0 (λ z. omega (arith, b.1)) (λ z. omega (arith, b.1))) in
    record { value = t.0; indexed = t.1 }
