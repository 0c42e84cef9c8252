-- The command is copied, and the arguments behind it.
use native.Mathlib.Omega.{arith}
use Rattle.std.specs.Prelude.{length, drop, ◌≤◌, ◌+◌}
use Rattle.std.proofs.Common.{ap, sym, ◌∙◌, length-append, length-drop, length-take-le}
use Rattle.materialize_type.proofs.Materialize.{head_long, written, size_is}
use Rattle.materialize_type.proofs.MaterializedType.write_to.Goals as goal
use Rattle.materialize_type.proofs.MaterializedType.write_to.Goals.{After-arguments-args}

-- there is room for both
room : (c : After-arguments-args) → c.command_length-k.result + length c.arguments-args.result.now ≤ length c.args.out.now
room c =
    let q = c.args.self.type_args.types.stand in
    omega (
      arith,
      size_is c.args.self.struct_handle.0 q.types q.counted c.command_length-k.ensures c.arguments-args.ensures,
      c.requires,
    )

pub slice_bounds-copy-end : goal.slice_bounds-copy-end
slice_bounds-copy-end c = omega (arith, room (goal.at.slice_bounds-copy-end c).After-arguments-args)

pub slice_bounds-copy-end-2 : goal.slice_bounds-copy-end-2
slice_bounds-copy-end-2 c =
    sym (length-take-le c.command_length-k.result c.args.out.now (omega (arith, room (goal.at.slice_bounds-copy-end-2 c).After-arguments-args)))

pub copy-requires : goal.copy-requires
copy-requires c =
    length-take-le c.command_length-k.result c.args.out.now (omega (arith, room (goal.at.copy-requires c).After-arguments-args))
    ∙ head_long c.struct_command-command.ensures c.command_length-k.ensures

pub slice_bounds-copy-end-4 : goal.slice_bounds-copy-end-4
slice_bounds-copy-end-4 c =
    let k = c.command_length-k.result in
    let out = c.args.out.now in
    omega (
      arith,
      room (goal.at.slice_bounds-copy-end-4 c).After-arguments-args,
      ap length c.copy.ensures,
      head_long c.struct_command-command.ensures c.command_length-k.ensures,
      length-append c.copy.new.out (drop k out),
      length-drop k out,
      length-take-le k out (omega (arith, room (goal.at.slice_bounds-copy-end-4 c).After-arguments-args)),
    )

pub returns : goal.returns
returns c =
    let q = c.args.self.type_args.types.stand in
    rw (c.copy-2.ensures, c.copy.ensures, c.arguments-args.ensures)
    (written c.struct_command-command.ensures c.command_length-k.ensures q.types c.args.out.now q.counted)
