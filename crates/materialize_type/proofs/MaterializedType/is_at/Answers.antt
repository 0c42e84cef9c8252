-- The lengths are compared, then the command, then the arguments.
use native.Mathlib.Omega.{arith}
use Rattle.signature_token.specs.Same.{span_within}
use Rattle.materialize_type.proofs.Materialize.{room_made, length_differs, command_differs, arguments_compared}
use Rattle.materialize_type.proofs.MaterializedType.is_at.Goals as goal

pub overflow_add-k : goal.overflow_add-k
overflow_add-k c = omega (arith, room_made c.args.self.type_args.types.stand c.command_length-k.ensures c.arguments-args.ensures)

pub returns-then-len-k : goal.returns-then-len-k
returns-then-len-k c =
    let q = c.args.self.type_args.types.stand in
    length_differs c.args.self.struct_handle.0 q.types q.counted c.command_length-k.ensures c.arguments-args.ensures c.if-len-k.true

pub slice_bounds-starts_with-count : goal.slice_bounds-starts_with-count
slice_bounds-starts_with-count c = omega (arith, span_within c.requires)

pub slice_bounds-starts_with-start : goal.slice_bounds-starts_with-start
slice_bounds-starts_with-start c = omega (arith, span_within c.requires)

pub slice_bounds-starts_with-count-then-starts_with : goal.slice_bounds-starts_with-count-then-starts_with
slice_bounds-starts_with-count-then-starts_with c = omega (arith, span_within c.requires, c.if-len-k.false)

pub slice_bounds-starts_with-start-then-starts_with : goal.slice_bounds-starts_with-start-then-starts_with
slice_bounds-starts_with-start-then-starts_with c = omega (arith, span_within c.requires, c.if-len-k.false)

pub returns-then-starts_with : goal.returns-then-starts_with
returns-then-starts_with c =
    let q = c.args.self.type_args.types.stand in
    arguments_compared c.struct_command-command.ensures c.command_length-k.ensures q.types q.counted
    c.starts_with.ensures.value c.if-starts_with.true c.arguments-args.ensures c.starts_with-then-starts_with.ensures.value

pub returns-else-starts_with : goal.returns-else-starts_with
returns-else-starts_with c =
    let q = c.args.self.type_args.types.stand in
    command_differs c.struct_command-command.ensures c.command_length-k.ensures q.types q.counted c.starts_with.ensures.value c.if-starts_with.false
