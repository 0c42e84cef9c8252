-- A type as a reference of either kind: what `inner_of` answers, and what an answer tells of `inner` and `is_reference`. Then what the calls
-- on a popped reference and what it refers to require.
use Rattle.std.specs.Prelude.{◌≡◌, refl, Bool, true, false, not, List, ℕ, ◌+◌, ◌≤◌, length, Option, Some, None, Ok, is_some}
use Rattle.std.proofs.Common.{sym, ap, ◌∙◌, arith}
use Rattle.std.proofs.Math.Option.{none}
use Rattle.definitions.specs.SignatureToken.{SignatureToken}
use Rattle.definitions.specs.Substitution.{inner, is_reference}
use Rattle.definitions.specs.Places.{TypeAt}
use Rattle.theorems.specs.Bytes.{one_type}
use Rattle.type_tests.specs.declared.Referent.{Referent}
use Rattle.type_tests.specs.declared.Referent.TheVariants as kind
use Rattle.signature_token.specs.Token.{token_of}
use Rattle.type_tests.specs.Kinds.{ReferentAt, referent_of}
use Rattle.type_stack.specs.declared.Entry.{Entry}
use Rattle.type_stack.specs.Held.{Stacked, Here, Part}
use Rattle.type_stack.specs.Tops.{TopOf, TopTwoOf, topped, topped_two}
use Rattle.operand_steps.specs.Operands.{operand, referent, referent_room, Refers, refers, refers_mutably, refers_not, inner_is, standing}

-- either kind of reference taken as one
abbrev pub either_of : Referent → Option ℕ
either_of (kind.Reference x) = Some x
either_of (kind.MutableReference x) = Some x
either_of kind.Value = None

-- r is what the type at `at` refers to
abbrev pub InnerAt : List ℕ → ℕ → Option ℕ → Type 0
InnerAt s at r = (p : TypeAt s at) → r ≡ either_of (referent_of (token_of p.type at))

-- one way of `inner_of`
pub inner_by : {s : List ℕ} {at : ℕ} {q v : Referent} → ReferentAt s at q → q ≡ v → InnerAt s at (either_of v)
inner_by k e p = ap either_of (sym e ∙ k p)

-- a reference to the type at y, of one kind or the other
pub record RefersEither (a : List ℕ) (x l : ℕ) (t : SignatureToken) (y : ℕ) : Type 0 where
  pub mut : Bool
  pub refers : Refers mut a x l t y

module _ {a : List ℕ} {x l : ℕ} {t : SignatureToken} {r : Option ℕ} (k : InnerAt a x r) (h : Here a x l t) where
  -- what `referent_of` answers
  told : ReferentAt a x (referent_of (token_of t x))
  told p = ap (λ (u : SignatureToken). referent_of (token_of u x)) (one_type t p.type h.at p.stands)

  is : r ≡ either_of (referent_of (token_of t x))
  is = k (operand h)

  pub refers_either : {y : ℕ} → r ≡ Some y → RefersEither a x l t y
  refers_either {y} e = go (referent_of (token_of t x)) refl (sym e ∙ is)
    where
      go : (q : Referent) → referent_of (token_of t x) ≡ q → Some y ≡ either_of q → RefersEither a x l t y
      go (kind.Reference z) f g = let n : z ≡ y = cc in record { mut = false; refers = refers told h (f ∙ ap kind.Reference n) }
      go (kind.MutableReference z) f g = let n : z ≡ y = cc in record { mut = true; refers = refers_mutably told h (f ∙ ap kind.MutableReference n) }
      go kind.Value f g = let z : ◌≡◌ {A = ℕ} 0 1 = cc in absurd (omega arith)

  pub no_inner : r ≡ None → inner t ≡ none
  no_inner e = go (referent_of (token_of t x)) refl (sym e ∙ is)
    where
      go : (q : Referent) → referent_of (token_of t x) ≡ q → None ≡ either_of q → inner t ≡ none
      go (kind.Reference z) f g = let z : ◌≡◌ {A = ℕ} 0 1 = cc in absurd (omega arith)
      go (kind.MutableReference z) f g = let z : ◌≡◌ {A = ℕ} 0 1 = cc in absurd (omega arith)
      go kind.Value f g = refers_not told h f

-- the same, as `is_reference` says it
module _ {s : List ℕ} {x : ℕ} {r : Option ℕ} (k : InnerAt s x r) (p : TypeAt s x) {b : Bool} where
  pub not_reference : b ≡ is_some r → not (is_reference p.type) ≡ not b
  unfolding is_reference
  not_reference e = go r k e
    where
      go : (q : Option ℕ) → InnerAt s x q → b ≡ is_some q → not (is_reference p.type) ≡ not b
      go (Some y) n f = rw (f, inner_is (refers_either n (standing p) refl).refers) refl
      go None n f = rw (f, no_inner n (standing p) refl) refl

-- ── what the calls on a popped reference and its referent require ──

module _ {a : List ℕ} {w : ℕ} {x : Entry} (k : Stacked a w) (p : TopOf a w (Ok x)) {r : Option ℕ} {y : ℕ} (n : InnerAt a x.start r) (e : r ≡ Some y) where
  pub inner_type : TypeAt a y
  inner_type = referent (refers_either n (topped k p).here e).refers

  pub inner_room : (x.start ≤ y) × Part a y (x.start + x.len) × (x.start + x.len + 2 ≤ length a)
  inner_room = let o = topped k p in referent_room (refers_either n o.here e).refers k o

module _ {a : List ℕ} {w : ℕ} {x y : Entry} (k : Stacked a w) (p : TopTwoOf a w (Ok (x, y))) where
  pub mutable_referent : {r : Referent} {z : ℕ} → ReferentAt a x.start r → r ≡ kind.MutableReference z → TypeAt a z
  mutable_referent n e = referent (refers_mutably n (topped_two k p).0.here e)

-- for `search`, which finds the looks among what was learnt
pub ruleset references = (inner_by, inner_type, mutable_referent)
