-- Steps over a leaf type that the code knows by its command.
use Rattle.std.specs.Prelude.{refl, List, ℕ, Ok, Err}
use Rattle.status.specs.declared.StatusCode.{StatusCode}
use Rattle.definitions.specs.SignatureToken.{SignatureToken, Address}
use Rattle.definitions.specs.Machine.{Step, ◌>>=◌}
use Rattle.definitions.specs.TypeSafety.{pop_expecting, cast}
use Rattle.signature_token.specs.TokenLaws.{IsLeaf, is_address}
use Rattle.type_stack.specs.Held.{Stacked}
use Rattle.type_stack.specs.Stepping.{StepsTo, and_then, and_bad, and_stacked}
use Rattle.type_stack.specs.Answers.{Stepped}

-- an operand that must be the leaf of that command is popped
pub record PopsLeaf (command : ℕ) (status : StatusCode) (a : List ℕ) (w : ℕ) (r : Stepped) : Type 0 where
  pub steps : (t : SignatureToken) → IsLeaf t command → StepsTo (pop_expecting t status) a w a r

-- a cast to the leaf of that command
pub record CastsTo (command : ℕ) (a : List ℕ) (w : ℕ) (b : List ℕ) (r : Stepped) : Type 0 where
  pub steps : (t : SignatureToken) → IsLeaf t command → StepsTo (cast t) a w b r

-- ── the address of a global ──

module _ {status : StatusCode} {a : List ℕ} {w : ℕ} where
  pub address_refused : {v : StatusCode} → PopsLeaf 0x05 status a w (Err v) → (f : Unit {0} → Step) → StepsTo (pop_expecting Address status >>= f) a w a (Err v)
  address_refused p f = and_bad (p.steps Address is_address) f refl

  module _ {x : ℕ} (p : PopsLeaf 0x05 status a w (Ok x)) where
    pub address_popped : Stacked a w → Stacked a x
    address_popped k = and_stacked (p.steps Address is_address) k refl refl

    pub address_then : (f : Unit {0} → Step) {b : List ℕ} {r : Stepped} → StepsTo (f tt) a x b r → StepsTo (pop_expecting Address status >>= f) a w b r
    address_then f h = and_then (p.steps Address is_address) f refl h

-- what a step answers that finds no address, and the stack that is left below one
pub ruleset addresses = (address_refused, address_popped)
