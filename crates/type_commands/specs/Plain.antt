-- What a type's command alone tells of the type, by what the definitions say that follows it.
use Rattle.std.specs.Prelude.{ℕ, ◌+◌, ◌≤◌, get_or}
use Rattle.std.proofs.Common.{arith}
use Rattle.definitions.specs.Commands.{TypeCommand, leaf, over, instantiation, type_commands}

-- what a byte opens
abbrev pub opened : ℕ → TypeCommand
opened b = get_or type_commands b TypeCommand.unknown

-- a leaf is its command
abbrev pub leaf_by : TypeCommand → ℕ
leaf_by (leaf t) = 1
leaf_by (over f) = 0
leaf_by (TypeCommand.index f) = 0
leaf_by instantiation = 0
leaf_by TypeCommand.unknown = 0

-- a struct and a type parameter are their command and a u16
abbrev pub index_by : TypeCommand → ℕ
index_by (leaf t) = 0
index_by (over f) = 0
index_by (TypeCommand.index f) = 3
index_by instantiation = 0
index_by TypeCommand.unknown = 0

-- how many bytes the type has, if it is one of these
abbrev pub width_by : TypeCommand → ℕ
width_by command = leaf_by command + index_by command

-- a vector and a reference stand around one type
abbrev pub around_by : TypeCommand → ℕ
around_by (leaf t) = 0
around_by (over f) = 1
around_by (TypeCommand.index f) = 0
around_by instantiation = 0
around_by TypeCommand.unknown = 0

-- ── of a byte ──

abbrev pub leaf_width : ℕ → ℕ
leaf_width b = leaf_by (opened b)

abbrev pub index_width : ℕ → ℕ
index_width b = index_by (opened b)

abbrev pub plain_width : ℕ → ℕ
plain_width b = width_by (opened b)

abbrev pub wrapping : ℕ → ℕ
wrapping b = around_by (opened b)

-- ── how large it is ──

pub around_most : (command : TypeCommand) → around_by command ≤ 1
around_most (leaf t) = omega arith
around_most (over f) = omega arith
around_most (TypeCommand.index f) = omega arith
around_most instantiation = omega arith
around_most TypeCommand.unknown = omega arith
