-- A type that a look-up found in the unit: the push of a vector of it, and a comparison with it.
use Rattle.std.specs.Prelude.{◌≡◌, List, ◌∷◌, Bool, ℕ}
use Rattle.std.proofs.Common.{ap, sym, ◌∙◌}
use Rattle.definitions.specs.SignatureToken.{SignatureToken, Vector, encode, same}
use Rattle.definitions.specs.Machine.{push}
use Rattle.definitions.specs.Places.{TypeAt}
use Rattle.signature_token.specs.Encoded.{Encoded}
use Rattle.signature_token.specs.Same.{SameAt, same_both}
use Rattle.type_stack.specs.Held.{Here}
use Rattle.type_stack.specs.Stepping.{StepsTo}
use Rattle.type_stack.specs.Pushing.{PushesTo}
use Rattle.type_stack.specs.Answers.{Stepped}
use Rattle.operand_steps.specs.Operands.{span}

-- ── a push ──

-- of a vector of the type at d of s
pub push_vector :
    {s : List ℕ} {d : ℕ} (q : TypeAt s d) {bs : List ℕ} → Encoded s d bs → {a b : List ℕ} {w : ℕ} {r : Stepped} → PushesTo (0x07 ∷ bs) a w b r →
    StepsTo (push (Vector q.type)) a w b r
unfolding encode
push_vector q is p = p.steps (Vector q.type) (ap (λ (bs : List ℕ). 0x07 ∷ bs) (sym (is q)))

-- ── a comparison ──

-- of the type that was found with a popped one
pub same_turned :
    {a : List ℕ} {x l : ℕ} {s : List ℕ} {d : ℕ} {r b : Bool} {t : SignatureToken} → SameAt a x l s d r → Here a x l t → (q : TypeAt s d) → r ≡ b →
    same q.type t ≡ b
same_turned {t = t} k h q e = same_both t q.type q.type t sym sym ∙ sym (k (span h) q) ∙ e
