-- The returns are popped as they stand.
use Rattle.definitions.specs.TypeSafety as step
use Rattle.step_views.specs.Looked.{list_room}
use Rattle.list_steps.proofs.ret_step.Goals as goal

pub pop_each-popped-requires-clause-short : goal.pop_each-popped-requires-clause-short
pop_each-popped-requires-clause-short c = list_room c.args.unit.now c.function_types-returns.ensures.in_unit

pub returns : goal.returns
unfolding step.ret_step
returns c = rw c.rebuilt.ensures (c.pop_each-popped.ensures.steps (record { types = _; are = c.function_types-returns.ensures.are }))
