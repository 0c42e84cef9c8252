-- The abilities of a type with its end, those of an instantiated struct, and the walk along its arguments, which call each other. The measure of
-- a type's walk is its unread bytes; the list's walk adds how many types are left, and the struct's stands one above it. The loop's invariant is
-- `Gathering`.
use Rattle.signature_token.specs.Ends.{type_measure, list_measure}
use Rattle.binary_views.specs.Abilities.{struct_measure}
use Rattle.binary_views.specs.Gathering.{Gathering}
use Rattle.binary_views.proofs.AbilityTables.+abilities_to_gather_instantiation_abilities.Given as goal

abbrev pub decreases-abilities_to : goal.decreases-abilities_to
decreases-abilities_to l = type_measure l.ty.bytes.now l.ty.at

abbrev pub decreases-gather : goal.decreases-gather
decreases-gather l = list_measure l.types.bytes.now l.types.at l.types.count

abbrev pub decreases-instantiation_abilities : goal.decreases-instantiation_abilities
decreases-instantiation_abilities l = struct_measure l.arguments.types.bytes.now l.arguments.types.at l.arguments.types.count

abbrev pub invariant-gather-loop-set : goal.invariant-gather-loop-set
invariant-gather-loop-set l =
    Gathering l.bytes l.fn.types.at l.fn.types.count l.self.unit.now l.self.handles.now l.self.constraints.now l.set-items l.at l.set-index
