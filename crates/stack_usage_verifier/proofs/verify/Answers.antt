use Rattle.stack_usage_verifier.proofs.Blocks.{blocks_refused}
use Rattle.stack_usage_verifier.proofs.verify.Goals as goal

pub returns-in-Err : goal.returns-in-Err
returns-in-Err c = blocks_refused c.loop-block_id.invariant c.block_at-block.ensures.is c.refusal_at.ensures c.in-Err.ensures
