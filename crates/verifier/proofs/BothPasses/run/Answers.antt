-- A clean walk is the verdict of both passes. Else a refusal of stack usage is the verdict; where it accepts, that of types is.
use Rattle.std.proofs.Common.{sym}
use Rattle.theorems.proofs.Clean.{clean_both}
use Rattle.verifier.proofs.Calls.{usage_refused, usage_accepted}
use Rattle.verifier.proofs.BothPasses.run.Goals as goal

pub returns-then-types : goal.returns-then-types
returns-then-types c = sym (clean_both _ _ c.requires (c.verify-types.ensures.clean c.if-types.true))

pub returns-in_default : goal.returns-in_default
returns-in_default c = usage_refused _ _ c.verify.ensures c.in_default.not-Accepted

pub returns-in-Accepted : goal.returns-in-Accepted
returns-in-Accepted c = usage_accepted _ _ c.verify.ensures c.in-Accepted.is c.verify-types.ensures.verdict
