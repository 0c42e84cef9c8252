-- The struct's type is made of the handle that was found.
use Rattle.step_views.specs.Looked.{struct_types, with_type}
use Rattle.resource_steps.proofs.needs_key.Goals as goal

pub returns : goal.returns
returns c = λ q. rw (← with_type q) (c.check_struct_ability.ensures (struct_types q))
