-- A look-up in a table is refused with a number that stack usage may answer with: OUT_OF_TABLE, and INVALID_OPERATION_IN_SCRIPT of a script.
use Rattle.std.specs.Prelude.{ℕ, T}
use Rattle.theorems.specs.Numbers.{table_refusals, usage_refusals, table_refusal, usage_refusal, covers_among}

pub table_usage : (n : ℕ) → T (table_refusal n) → T (usage_refusal n)
table_usage n t = covers_among table_refusals usage_refusals tt n t
