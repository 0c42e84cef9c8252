-- A refusal of the reader with its place; or a unit that was read, and the verdict of the passes over it.
use Rattle.std.proofs.Common.{refl, arith}
use Rattle.unit.specs.WasRead.{was_read}
use Rattle.unit_tables.specs.Compiled.{read_as, unit_read}
use Rattle.verifier.proofs.Calls.{place_fits, refused_reading, judged_reading}
use Rattle.verifier.proofs.judge_in.Goals as goal

pub overflow_cast-result : goal.overflow_cast-result
overflow_cast-result g c = let h = place_fits _ c.in-Err.ensures.value refl in omega (arith, h)

pub invariant_of-unit-clause-read : goal.invariant_of-unit-clause-read
invariant_of-unit-clause-read g c = read_as (was_read _ _ c.in-Ok.ensures.value c.in-Ok.ensures.indexed refl)

pub returns-in-Err : goal.returns-in-Err
returns-in-Err g c = refused_reading _ c.in-Err.ensures.value refl _

pub returns-in-Ok : goal.returns-in-Ok
returns-in-Ok g c = judged_reading (unit_read _) _ c.run.ensures
