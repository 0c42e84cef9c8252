-- The answers of this crate's functions, read as results of the definitions: the contracts are equations through these.
use Rattle.std.specs.Prelude.{◌≡◌, ℕ, Result}
use Rattle.status.specs.declared.StatusCode.{StatusCode}
use Rattle.definitions.specs.Result.{ok, at}
use Rattle.definitions.specs.Bytecode.{Bytecode}
use Rattle.definitions.specs.CompiledUnit as defs
use Rattle.definitions.specs.StackUsage.{Effect, instruction_effect}
use Rattle.unit_tables.specs.Answers.{told}

abbrev pub pops_and_pushes : ℕ × ℕ → Effect
pops_and_pushes e = record { pops = e.0; pushes = e.1 }

-- r is the effect of the i-th instruction
pub record InstructionEffectAt (u : defs.CompiledUnit) (i : ℕ) (r : Result (ℕ × ℕ) StatusCode) : Type 0 where
  pub instruction : Bytecode
  pub stands : at u.code i ≡ ok instruction
  pub effect : told pops_and_pushes r ≡ instruction_effect u instruction
