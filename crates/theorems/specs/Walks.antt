-- What is so of the end of a walk over blocks: what is kept of every type on the stack, and the statuses that it may be refused with.
use Rattle.std.specs.Prelude.{T}
use Rattle.status.specs.Verdict.{status_number}
use Rattle.definitions.specs.SignatureToken.{SignatureToken}
use Rattle.definitions.specs.Machine.{Stack}
use Rattle.definitions.specs.Verify.{Walked, stands, stopped}
use Rattle.theorems.specs.Numbers.{step_refusal}
use Rattle.theorems.specs.All.{All}

-- the stack that a walk ends with, or that stood before the refused instruction
abbrev pub stack_of : Walked → Stack
stack_of (stands s) = s
stack_of (stopped w offset s) = s

abbrev pub Allowed : Walked → Type 0
Allowed (stands s) = Unit {0}
Allowed (stopped w offset s) = T (step_refusal (status_number w))

pub record Ends (I : SignatureToken → Type 0) (r : Walked) : Type 0 where
  pub keeps : All I (stack_of r)
  pub allowed : Allowed r
