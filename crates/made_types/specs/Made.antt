-- What the comparison with a struct that is not written, and the pushes of types that are made, promise.
use Rattle.std.specs.Prelude.{List, Bool, ◌≡◌, ℕ}
use Rattle.definitions.specs.SignatureToken.{same}
use Rattle.definitions.specs.Substitution.{materialize_type, instantiate, reference_to}
use Rattle.definitions.specs.Machine.{◌>>=◌, push, look}
use Rattle.definitions.specs.Places.{TypeAt}
use Rattle.signature_token.specs.declared.SignatureView.{SignatureView}
use Rattle.record_views.specs.Records.{TypesIn}
use Rattle.signature_token.specs.Same.{Spans}
use Rattle.type_places.specs.Arguments.{Arguments}
use Rattle.type_stack.specs.Stepping.{StepsTo}
use Rattle.type_stack.specs.Answers.{Stepped}

-- r says whether the type of len bytes at x of a is the struct with the type arguments of the list
pub record StructIs (a : List ℕ) (x len : ℕ) (h : ℕ) (list : SignatureView) (r : Bool) : Type 0 where
  pub is : (p : Spans a x len) (q : TypesIn list) → r ≡ same p.type (materialize_type h q.types)

-- that struct is pushed
pub record PushesStruct (h : ℕ) (list : SignatureView) (a : List ℕ) (w : ℕ) (b : List ℕ) (r : Stepped) : Type 0 where
  pub steps : (q : TypesIn list) → StepsTo (push (materialize_type h q.types)) a w b r

-- a reference to it
pub record PushesStructReference (m : Bool) (h : ℕ) (list : SignatureView) (a : List ℕ) (w : ℕ) (b : List ℕ) (r : Stepped) : Type 0 where
  pub steps : (q : TypesIn list) → StepsTo (push (reference_to m (materialize_type h q.types))) a w b r

-- a reference to what `instantiate` makes of the type at `at`, or the refusal that there is none
pub record PushesFieldReference (m : Bool) (s : List ℕ) (at : ℕ) (args places : List ℕ) (a : List ℕ) (w : ℕ) (b : List ℕ) (r : Stepped) : Type 0 where
  pub steps : (p : TypeAt s at) (q : Arguments args places) → StepsTo (look (instantiate p.type q.subst) >>= (λ t. push (reference_to m t))) a w b r
