-- The judge of a unit that was read: a verdict, by the length of the area.
use Rattle.std.specs.Prelude.{ℕ}
use Rattle.status.specs.declared.Verdict.{Verdict}
use Rattle.definitions.specs.CompiledUnit.{CompiledUnit}

abbrev pub Judge : Type 0
Judge = ℕ → CompiledUnit → Verdict
