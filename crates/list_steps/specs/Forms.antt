-- What the pops, the pushes and the test of a list of types promise, for whatever types stand where the list and the arguments' places say.
use Rattle.std.specs.Prelude.{List, reverse, ◌≡◌, ℕ, Bool, Result as Answer, Ok, Err}
use Rattle.status.specs.declared.StatusCode.{StatusCode}
use Rattle.definitions.specs.Result.{Result, ok, err}
use Rattle.definitions.specs.SignatureToken.{SignatureToken, Signature}
use Rattle.definitions.specs.Substitution.{instantiate, instantiate_each}
use Rattle.definitions.specs.Machine.{pop_each, push_each}
use Rattle.definitions.specs.Places.{TypeAt}
use Rattle.signature_token.specs.declared.SignatureView.{SignatureView}
use Rattle.record_views.specs.Records.{TypesIn}
use Rattle.signature_token.specs.Same.{Spans}
use Rattle.type_places.specs.Arguments.{Arguments}
use Rattle.substitution_comparison.specs.Compare.{compared}
use Rattle.type_stack.specs.Stepping.{StepsTo}
use Rattle.type_stack.specs.Answers.{Stepped}

-- r compares the type of len bytes at x of a with what f makes of the type at `at` of s
pub record ComparedWith (f : SignatureToken → Result SignatureToken) (a : List ℕ) (x len : ℕ) (s : List ℕ) (at : ℕ) (r : Answer Bool StatusCode) : Type 0 where
  pub is : (p : Spans a x len) (q : TypeAt s at) → r ≡ compared p.type (f q.type)

-- an operand is popped for each type of the list, as f makes it, the last first
pub record PopsEach (f : SignatureToken → Result SignatureToken) (list : SignatureView) (status : StatusCode) (a : List ℕ) (w : ℕ) (r : Stepped) : Type 0 where
  pub steps : (p : TypesIn list) → StepsTo (pop_each status f (reverse p.types)) a w a r

-- the types of the list are pushed, their parameters replaced
pub record PushesEach (list : SignatureView) (args places : List ℕ) (a : List ℕ) (w : ℕ) (b : List ℕ) (r : Stepped) : Type 0 where
  pub steps : (p : TypesIn list) (q : Arguments args places) → StepsTo (push_each (λ t. instantiate t q.subst) p.types) a w b r

-- whether there is such a signature, or why not
abbrev pub instantiates_of : Result Signature → Answer (Unit {0}) StatusCode
instantiates_of (ok ts) = Ok tt
instantiates_of (err status) = Err status

pub record InstantiatesEach (list : SignatureView) (args places : List ℕ) (r : Answer (Unit {0}) StatusCode) : Type 0 where
  pub is : (p : TypesIn list) (q : Arguments args places) → r ≡ instantiates_of (instantiate_each p.types q.subst)
