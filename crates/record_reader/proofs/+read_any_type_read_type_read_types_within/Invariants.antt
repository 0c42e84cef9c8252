-- A type and a list of types, which call each other: with each command of a type one level less is allowed. The measure is three times the
-- levels, one more for a type that may be plain, and one more again for a list, which goes down to its types at the same level.
use Rattle.std.proofs.Common.{◌≡◌, ◌+◌, ◌-◌, ◌*◌, ◌≤◌}
use Rattle.definitions.specs.CompiledUnit.{Head}
use Rattle.definitions.specs.Reading.{many}
use Rattle.definitions.specs.Commands.{commands_of}
use Rattle.definitions.specs.Reader.{type_within}
use Rattle.record_reader.specs.ReadTo.{read_to}
use Rattle.record_reader.specs.Bodies.{counted}
use Rattle.record_reader.proofs.+read_any_type_read_type_read_types_within.Given as goal

abbrev pub decreases-read_any_type : goal.decreases-read_any_type
decreases-read_any_type l = 3 * l.levels

abbrev pub decreases-read_type : goal.decreases-read_type
decreases-read_type l = 3 * l.levels + 1

abbrev pub decreases-read_types_within : goal.decreases-read_types_within
decreases-read_types_within l = 3 * l.levels + 2

abbrev pub invariant-read_any_type-loop-p : goal.invariant-read_any_type-loop-p
invariant-read_any_type-loop-p l =
    (l.left ≤ l.levels) ×
    ((head : Head) → read_to (type_within (commands_of head) l.levels l.s l.at) ≡ read_to (type_within (commands_of head) l.left l.s l.p))

abbrev pub invariant-read_types_within-loop-i : goal.invariant-read_types_within-loop-i
invariant-read_types_within-loop-i l =
    (head : Head) → read_to (counted (type_within (commands_of head) l.levels) l.s l.at)
    ≡ read_to (many (l.count - l._i) (type_within (commands_of head) l.levels) l.s l.next)
