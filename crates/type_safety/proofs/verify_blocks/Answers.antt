-- `verify_blocks`: the laws of a walk along the blocks.
use native.Mathlib.Omega.{arith}
use Rattle.unit_tables.specs.Tables.{table_count, blocks_in}
use Rattle.unit_tables.specs.Compiled.{unit_read}
use Rattle.type_safety.specs.Walks.{in_blocks_start, clean_start, in_blocks_next, clean_next, in_blocks_stopped, in_blocks_end}
use Rattle.type_safety.proofs.verify_blocks.Goals as goal

pub loop-block_id-init : goal.loop-block_id-init
loop-block_id-init c = (in_blocks_start _ c.requires, λ e. clean_start _ _)

pub loop-block_id-preserved : goal.loop-block_id-preserved
loop-block_id-preserved c =
    let inv = c.loop-block_id.invariant in
    let found = c.block_at-block.ensures.is in (
      in_blocks_next inv.0 found c.in-Ok.ensures,
      λ e. clean_next inv.0 found c.in-Ok.ensures inv.1 e,
    )

pub returns-in-Err : goal.returns-in-Err
returns-in-Err c = in_blocks_stopped c.loop-block_id.invariant.0 c.block_at-block.ensures.is c.in-Err.ensures c.refusal_at.ensures

pub returns : goal.returns
returns c =
    in_blocks_end c.loop-block_id.invariant.0 (omega (arith, table_count (blocks_in (unit_read c.args.locals.now.unit))))
    c.loop-block_id.invariant.1
