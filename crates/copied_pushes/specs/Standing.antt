-- A type that stands elsewhere: its push and that of a reference to it.
use Rattle.std.specs.Prelude.{List, ◌∷◌, Bool, ℕ}
use Rattle.std.proofs.Common.{ap, sym, ◌∙◌}
use Rattle.definitions.specs.Substitution.{reference_to}
use Rattle.definitions.specs.Machine.{push}
use Rattle.definitions.specs.Places.{TypeAt}
use Rattle.signature_token.specs.Encoded.{Encoded}
use Rattle.type_stack.specs.Stepping.{StepsTo}
use Rattle.type_stack.specs.Pushing.{PushesTo}
use Rattle.type_stack.specs.Answers.{Stepped}
use Rattle.type_pushes.specs.References.{ReferenceCommand}

module _ {s : List ℕ} {d : ℕ} (p : TypeAt s d) {bs : List ℕ} (is : Encoded s d bs) {a b : List ℕ} {w : ℕ} {r : Stepped} where
  pub push_declared : PushesTo bs a w b r → StepsTo (push p.type) a w b r
  push_declared k = k.steps p.type (sym (is p))

  pub push_reference : {m : Bool} {c : ℕ} → ReferenceCommand m c → PushesTo (c ∷ bs) a w b r → StepsTo (push (reference_to m p.type)) a w b r
  push_reference {m} {c} e k = k.steps (reference_to m p.type) (e.is p.type ∙ ap (λ (bs : List ℕ). c ∷ bs) (sym (is p)))
