-- What the comparison of a type that stands elsewhere with a type whose parameters are replaced says: by bytes, since two types are equal
-- exactly when their bytes are.
use Rattle.std.specs.Prelude.{◌≡◌, refl, Result as Answer, Ok, Err, IsErrAnd, List, Bool, true, false, ℕ, ◌+◌, length, take, drop, get_or, eqb}
use Rattle.std.proofs.Common.{sym, ap, ◌∙◌, eq-eqb, ne_eqb}
use Rattle.std.proofs.Math.Decide.{ℕ_discrete}
use Rattle.std.proofs.lemmas.Result.{err_from_is_err_and}
use Rattle.status.specs.declared.StatusCode.{StatusCode}
use Rattle.definitions.specs.Result.{Result, ok, err}
use Rattle.definitions.specs.SignatureToken.{SignatureToken, encode, same}
use Rattle.definitions.specs.Substitution.{instantiate}
use Rattle.definitions.specs.Places.{TypeAt}
use Rattle.theorems.specs.Bytes.{one_type}
use Rattle.signature_token.specs.declared.Token.{Token}
use Rattle.signature_token.specs.declared.Token.TheVariants.{Leaf}
use Rattle.signature_token.specs.Token.{TokenAt, at_some}
use Rattle.signature_token.specs.TokenLaws.{leaf_byte}
use Rattle.signature_token.specs.Same.{same_yes, same_no}
use Rattle.substitution.specs.declared.Size.{Size}
use Rattle.type_places.specs.Arguments.{Arguments}
use Rattle.substitution.specs.Bytes.{byte_same, byte_differs}
use Rattle.substitution.specs.Instantiate.{filled, instantiated, leaf_filled, not_instantiated}
use Rattle.substitution.specs.Size.{SizeAt, not_sized, size_filling, leaf_alone}
use Rattle.substitution_comparison.specs.Matching.{SameFilled}

-- a type against what `instantiate` gave
unfoldable pub compared : SignatureToken → Result SignatureToken → Answer Bool StatusCode
compared t (ok u) = Ok (same t u)
compared t (err status) = Err status

-- r compares the type at x of s with the type at `at` of ty, with the arguments in its parameters' places
pub record ComparedAt (s : List ℕ) (x : ℕ) (ty : List ℕ) (at : ℕ) (args places : List ℕ) (r : Answer Bool StatusCode) : Type 0 where
  pub is : (p : TypeAt s x) (q : TypeAt ty at) (a : Arguments args places) → r ≡ compared p.type (instantiate q.type a.subst)

-- ── laws ──

-- what the exit of a `?` answers
exit : {r : Answer Bool StatusCode} {status : StatusCode} → IsErrAnd r (λ y. y ≡ status) → r ≡ Err status
exit {r} e = let p = err_from_is_err_and r e in p.1 ∙ ap Err p.2

compared_refused : (t : SignatureToken) {r : Result SignatureToken} {status : StatusCode} → r ≡ err status → Err status ≡ compared t r
unfolding compared
compared_refused t e = rw e

compared_same : (t u : SignatureToken) {r : Result SignatureToken} → r ≡ ok u → t ≡ u → Ok true ≡ compared t r
unfolding compared
compared_same t u e k = rw (e, same_yes t u k)

compared_differs : (t u : SignatureToken) {r : Result SignatureToken} → r ≡ ok u → (t ≡ u → ⊥) → Ok false ≡ compared t r
unfolding compared
compared_differs t u e k = rw (e, same_no t u k)

module _ {s : List ℕ} {x : ℕ} {ty : List ℕ} {at : ℕ} {args places : List ℕ} where
  pub past_compared :
      {r : Answer Bool StatusCode} {status : StatusCode} → IsErrAnd r (λ y. y ≡ status) → SizeAt ty at args places (Err status) → ComparedAt s x ty at args places r
  past_compared e z = rw (exit e) (record {
    is = λ p q a. compared_refused p.type (not_instantiated q.type a.subst (not_sized 0 (at + length (encode q.type)) (filled q.type a.subst) (z.is q a)));
  })

  -- what is made has the type's bytes
  pub same_compared : {b : Bool} → b ≡ true → SameFilled s x ty at args places b → ComparedAt s x ty at args places (Ok true)
  same_compared e m = record {
    is = λ p q a.
        let u = instantiated q.type a.subst ((rw e at m).tells p q a) in
        compared_same p.type u.type u.here (one_type p.type u.type p.stands (rw u.is at p.stands));
  }

  pub filled_differs : {b : Bool} {z : Size} → b ≡ false → SizeAt ty at args places (Ok z) → SameFilled s x ty at args places b → ComparedAt s x ty at args places (Ok false)
  filled_differs e z m = record {
    is = λ p q a.
        let f = size_filling z q a in
        let u = instantiated q.type a.subst f.is in
        compared_differs p.type u.type u.here (λ k. (rw e at m).tells p q a (f.is ∙ ap ok (u.is ∙ ap encode (sym k))));
  }

-- `compare_walked`
pub ruleset walked = (past_compared, same_compared, filled_differs)

-- a leaf is the type at x of s where its command stands there
module _ {s : List ℕ} {x : ℕ} {ty : List ℕ} {at : ℕ} {r : Token} {b : ℕ} (t : TokenAt ty at r) (e : r ≡ Leaf b) (p₀ : TypeAt s x) (q₀ : TypeAt ty at) where
  leaf_same : {args places : List ℕ} → get_or s x 0 ≡ b → ComparedAt s x ty at args places (Ok true)
  leaf_same k = same_compared refl (record {
    tells = λ p q a.
        let h = byte_same s x ty at (at_some p₀) (at_some q₀) (k ∙ sym (leaf_byte t q₀ e)) in
        let filling = leaf_filled t q a.subst e in
        let u = instantiated q.type a.subst filling in
        filling ∙ ap ok (u.is ∙ ap encode (sym (one_type p.type u.type p.stands (rw u.is at h))));
  })

  leaf_differs : {args places : List ℕ} → (get_or s x 0 ≡ b → ⊥) → ComparedAt s x ty at args places (Ok false)
  leaf_differs d = filled_differs refl (leaf_alone t e) (record {
    tells = λ p q a k.
        let same : take 1 (drop at ty) ≡ encode p.type = let i = sym (leaf_filled t q a.subst e) ∙ k in cc in
        byte_differs s x ty at (at_some p₀) (at_some q₀) (λ i. d (i ∙ leaf_byte t q₀ e)) (rw same p.stands);
  })

  pub leaf_compared : {args places : List ℕ} → ComparedAt s x ty at args places (Ok (eqb (get_or s x 0) b))
  leaf_compared {args} {places} = go (ℕ_discrete (get_or s x 0) b)
    where
      go : Dec (get_or s x 0 ≡ b) → ComparedAt s x ty at args places (Ok (eqb (get_or s x 0) b))
      go (yes k) = rw (eq-eqb (get_or s x 0) b k) (leaf_same k)
      go (no k) = rw (ne_eqb (get_or s x 0) b k) (leaf_differs k)
