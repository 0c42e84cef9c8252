-- What the vector steps ask of an operand: whether it is a vector, or refers to one, and of which element. The answers of the look at an
-- operand, and what they say of the guard `element_is` of the definitions.
use Rattle.std.specs.Prelude.{◌≡◌, List, Bool, true, false, ℕ, ◌+◌, ◌-◌, ◌≤◌, length, Some, None, Ok, Err}
use Rattle.std.specs.Prelude as prelude
use Rattle.std.proofs.Math.Path.{refl, ap, sym}
use Rattle.std.proofs.Common.{◌∙◌, arith}
use Rattle.std.proofs.Math.Option.{Option, some, none}
use Rattle.status.specs.declared.StatusCode.TheVariants.{TYPE_MISMATCH}
use Rattle.definitions.specs.Result.{or_err}
use Rattle.definitions.specs.SignatureToken.{SignatureToken, Bool', U8, U64, U128, Address, Signer, Vector as VectorOf, Struct as StructOf, StructInstantiation as InstantiationOf, Reference as ReferenceOf, MutableReference as MutableReferenceOf, TypeParameter as ParameterOf, Outer, reference, mutable_reference, vector, integer, other, encode, same, outer}
use Rattle.definitions.specs.Substitution.{inner, mutable_inner, inner_of_outer, mutable_inner_of_outer, referred, element_of, element_of_outer, get_vector_element_type}
use Rattle.definitions.specs.Machine.{Step, ◌>>=◌, look, check}
use Rattle.definitions.specs.TypeSafety.{element_is}
use Rattle.definitions.specs.Places.{At, TypeAt}
use Rattle.signature_token.specs.declared.Wrapper.{Wrapper}
use Rattle.signature_token.specs.declared.Wrapper.TheVariants as wrapper
use Rattle.signature_token.specs.declared.Token.{Token}
use Rattle.signature_token.specs.declared.Token.TheVariants.{Leaf, Wrapped, Struct, StructInstantiation, TypeParameter}
use Rattle.type_tests.specs.declared.Referent.TheVariants.{Reference, MutableReference, Value}
use Rattle.signature_token.specs.Token.{token_of}
use Rattle.signature_token.specs.TokenLaws.{IsWrapped, wrapped_is}
use Rattle.type_tests.specs.Kinds.{ReferentAt}
use Rattle.signature_token.specs.Same.{Spans, SameAt, same_no, same_both, spanned}
use Rattle.type_stack.specs.Held.{Here}
use Rattle.type_stack.specs.Stepping.{StepsTo, check_then, check_bad, check_last, check_last_bad}
use Rattle.type_stack.specs.Answers.{Stepped}
use Rattle.operand_steps.specs.Operands.{span, Refers, refers_not, standing, refers_to, refers_mutably_to, referent, inner_is, mutable_is, mutable_not, reference_type, mutable_type}

-- ── the words ──

-- where an element stands, if there is one
abbrev pub Element : Type 0
Element = prelude.Option ℕ

abbrev pub element_by : Wrapper → ℕ → Element
element_by wrapper.Vector x = Some x
element_by wrapper.Reference x = None
element_by wrapper.MutableReference x = None

-- a type taken apart, as a vector
abbrev pub vector_element_of : Token → Element
vector_element_of (Leaf b) = None
vector_element_of (Wrapped w x) = element_by w x
vector_element_of (Struct h) = None
vector_element_of (StructInstantiation h n x) = None
vector_element_of (TypeParameter i) = None

abbrev pub VectorElementAt : List ℕ → ℕ → Element → Type 0
VectorElementAt s at r = (p : TypeAt s at) → r ≡ vector_element_of (token_of p.type at)

-- the element of the vector that the type t refers to stands at x
pub record RefersToVector (s : List ℕ) (t : SignatureToken) (mut_ref_only : Bool) (x : ℕ) : Type 0 where
  pub element : SignatureToken
  pub is : get_vector_element_type t mut_ref_only ≡ some element
  pub stands : At s x (encode element)
  pub long : length (encode t) ≡ 2 + length (encode element)

abbrev pub element_answer : List ℕ → SignatureToken → Bool → Element → Type 0
element_answer s t m (Some x) = RefersToVector s t m x
element_answer s t m None = get_vector_element_type t m ≡ none

-- r says where the element stands of the vector that the type at `at` refers to
pub record ElementTypeAt (s : List ℕ) (at : ℕ) (m : Bool) (r : Element) : Type 0 where
  pub is : (p : TypeAt s at) → element_answer s p.type m r

-- r says whether the type of l bytes at x of a is a vector of the type at d of s
pub record VectorIs (a : List ℕ) (x l : ℕ) (s : List ℕ) (d : ℕ) (r : Bool) : Type 0 where
  pub is : (p : Spans a x l) (q : TypeAt s d) → r ≡ same p.type (VectorOf q.type)

-- what the guard tests of the element that is found
abbrev pub is_element : SignatureToken → Option SignatureToken → Bool
is_element declared none = false
is_element declared (some derived) = same derived declared

-- r says whether it refers to one
pub record ElementIs (a : List ℕ) (x l : ℕ) (s : List ℕ) (d : ℕ) (m r : Bool) : Type 0 where
  pub is : (p : Spans a x l) (q : TypeAt s d) → r ≡ is_element q.type (get_vector_element_type p.type m)

-- ── vectors ──

-- a vector or not: what its first command tells, and what the definition says
data View (x : ℕ) (t : SignatureToken) : Type 0 where
  as_vector : token_of t x ≡ Wrapped wrapper.Vector (x + 1) → View x t
  as_other : vector_element_of (token_of t x) ≡ None → element_of_outer (outer t) ≡ none → View x t

view : (x : ℕ) (t : SignatureToken) → View x t
unfolding token_of outer
view x Bool' = as_other refl refl
view x U8 = as_other refl refl
view x U64 = as_other refl refl
view x U128 = as_other refl refl
view x Address = as_other refl refl
view x Signer = as_other refl refl
view x (VectorOf t) = as_vector refl
view x (StructOf h) = as_other refl refl
view x (InstantiationOf h ts) = as_other refl refl
view x (ReferenceOf t) = as_other refl refl
view x (MutableReferenceOf t) = as_other refl refl
view x (ParameterOf i) = as_other refl refl

module _ {s : List ℕ} {x : ℕ} where
  pub vector_found : {y : ℕ} → VectorElementAt s x (Some y) → (p : TypeAt s x) → IsWrapped s x p.type wrapper.Vector y
  vector_found {y} k p = go (view x p.type)
    where
      go : View x p.type → IsWrapped s x p.type wrapper.Vector y
      go (as_vector f) = let z : x + 1 ≡ y = cc (k p, ap vector_element_of f) in wrapped_is p.stands (f ∙ ap (Wrapped wrapper.Vector) z)
      go (as_other f n) = let z : ◌≡◌ {A = ℕ} 0 1 = cc (k p) in absurd (omega arith)

  pub vector_none : VectorElementAt s x None → (p : TypeAt s x) → element_of_outer (outer p.type) ≡ none
  vector_none k p = go (view x p.type)
    where
      go : View x p.type → element_of_outer (outer p.type) ≡ none
      go (as_vector f) = let z : ◌≡◌ {A = ℕ} 0 1 = cc (k p, ap vector_element_of f) in absurd (omega arith)
      go (as_other f n) = n

outer_vector : {t u : SignatureToken} → t ≡ VectorOf u → element_of_outer (outer t) ≡ some u
unfolding outer
outer_vector e = ap (λ (v : SignatureToken). element_of_outer (outer v)) e

same_vector : (t u : SignatureToken) → same (VectorOf t) (VectorOf u) ≡ same t u
same_vector t u = same_both t u (VectorOf t) (VectorOf u) (ap VectorOf) (λ e. cc)

module _ {a : List ℕ} {x l y : ℕ} (k : VectorElementAt a x (Some y)) where
  -- its element, as it is compared
  unfoldable pub vector_span : Spans a x l → Spans a y (l - 1)
  vector_span p =
      let w = vector_found k (spanned p) in
      record { type = w.inner; stands = w.stands; long = let z = p.long in omega (arith, w.long) }

  pub vector_room : Spans a x l → 1 ≤ l
  vector_room p = let z = p.long in omega (arith, (vector_found k (spanned p)).long)

  pub vector_same : {s : List ℕ} {d : ℕ} {b : Bool} → SameAt a y (l - 1) s d b → VectorIs a x l s d b
  unfolding vector_span
  vector_same i = record {
    is = λ p q.
        let w = vector_found k (spanned p) in
        i (vector_span p) q ∙ sym (same_vector w.inner q.type) ∙ ap (λ (t : SignatureToken). same t (VectorOf q.type)) (sym w.is);
  }

pub vector_not : {a : List ℕ} {x l : ℕ} {s : List ℕ} {d : ℕ} → VectorElementAt a x None → VectorIs a x l s d false
vector_not k = record {
  is = λ p q.
      sym (same_no p.type (VectorOf q.type) (λ f.
      let z : some q.type ≡ none = sym (outer_vector f) ∙ vector_none k (spanned p) in
      let n : ◌≡◌ {A = ℕ} 0 1 = cc in
      omega arith));
}

-- what the answer on a vector follows from
pub ruleset vectors = (vector_span, vector_not)

-- ── references to vectors ──

-- what a type refers to, if only a mutable reference counts or if any does
module _ (t : SignatureToken) {o : Option SignatureToken} where
  referred_mutable : {m : Bool} → m ≡ true → mutable_inner t ≡ o → referred m t ≡ o
  unfolding referred
  referred_mutable e f = rw e f

  referred_any : {m : Bool} → m ≡ false → inner t ≡ o → referred m t ≡ o
  unfolding referred
  referred_any e f = rw e f

  referred_both : (m : Bool) → mutable_inner t ≡ o → inner t ≡ o → referred m t ≡ o
  referred_both true e f = referred_mutable refl e
  referred_both false e f = referred_any refl f

-- what is no reference is no mutable one
no_reference : (t : SignatureToken) → inner t ≡ none → mutable_inner t ≡ none
unfolding inner mutable_inner
no_reference t e = go (outer t) e
  where
    go : (o : Outer) → inner_of_outer o ≡ none → mutable_inner_of_outer o ≡ none
    go (reference u) f = refl
    go (mutable_reference u) f = f
    go (vector u) f = refl
    go integer f = refl
    go other f = refl

module _ {s : List ℕ} {x : ℕ} where
  -- the vector that it refers to
  referred_vector :
      (m : Bool) {mut : Bool} {y : ℕ} {q : Element} (p : TypeAt s x) (n : Refers mut s x (length (encode p.type)) p.type y) → referred m p.type ≡ some n.type →
      VectorElementAt s y q → element_answer s p.type m q
  unfolding get_vector_element_type
  referred_vector m {y = y} {q} p n e v = go q v
    where
      go : (o : Element) → VectorElementAt s y o → element_answer s p.type m o
      go (Some z) v =
          let w = vector_found v (referent n) in
          record { element = w.inner; is = ap element_of e ∙ outer_vector w.is; stands = w.stands; long = omega (arith, n.long, w.long) }
      go None v = ap element_of e ∙ vector_none v (referent n)

  referred_nothing : {m : Bool} → ((p : TypeAt s x) → referred m p.type ≡ none) → ElementTypeAt s x m None
  unfolding get_vector_element_type
  referred_nothing f = record { is = λ p. ap element_of (f p) }

  module _ {m : Bool} {y : ℕ} where
    pub by_reference : {q : Element} → ReferentAt s x (Reference y) → m ≡ false → VectorElementAt s y q → ElementTypeAt s x m q
    by_reference k i v = record { is = λ p. let n = refers_to k refl p in referred_vector m p n (referred_any p.type i (inner_is n)) v }

    pub by_mutable : {q : Element} → ReferentAt s x (MutableReference y) → VectorElementAt s y q → ElementTypeAt s x m q
    by_mutable k v = record { is = λ p. let n = refers_mutably_to k refl p in referred_vector m p n (referred_both p.type m (mutable_is n refl) (inner_is n)) v }

    pub not_mutable : ReferentAt s x (Reference y) → m ≡ true → ElementTypeAt s x m None
    not_mutable k i = referred_nothing (λ p. referred_mutable p.type i (mutable_not (refers_to k refl p) refl))

  -- the type that it refers to
  module _ {y : ℕ} where
    pub reference_stands : ReferentAt s x (Reference y) → TypeAt s x → TypeAt s y
    reference_stands k p = reference_type k refl p

    pub mutable_stands : ReferentAt s x (MutableReference y) → TypeAt s x → TypeAt s y
    mutable_stands k p = mutable_type k refl p

  pub no_referent : {m : Bool} → ReferentAt s x Value → ElementTypeAt s x m None
  no_referent {m} k = referred_nothing (λ p. let f = refers_not k (standing p) refl in referred_both p.type m (no_reference p.type f) f)

-- what the answer on the referent follows from
pub ruleset referents = (no_referent, reference_stands, mutable_stands)

module _ {a : List ℕ} {x l : ℕ} {m : Bool} where
  module _ {y : ℕ} (k : ElementTypeAt a x m (Some y)) where
    -- the element, as it is compared
    unfoldable pub element_span : Spans a x l → Spans a y (l - 2)
    element_span p =
        let w = k.is (spanned p) in
        record { type = w.element; stands = w.stands; long = let z = p.long in omega (arith, w.long) }

    pub element_room : Spans a x l → 2 ≤ l
    element_room p = let z = p.long in omega (arith, (k.is (spanned p)).long)

    pub element_same : {s : List ℕ} {d : ℕ} {b : Bool} → SameAt a y (l - 2) s d b → ElementIs a x l s d m b
    unfolding element_span
    element_same i = record { is = λ p q. i (element_span p) q ∙ ap (is_element q.type) (sym (k.is (spanned p)).is) }

  pub element_not : {s : List ℕ} {d : ℕ} → ElementTypeAt a x m None → ElementIs a x l s d m false
  element_not k = record { is = λ p q. ap (is_element q.type) (sym (k.is (spanned p))) }

-- what the answer on a reference to a vector follows from
pub ruleset elements = (element_span, element_same, element_not)

-- ── the guard ──

-- it is one test
pub guard_is : (d t : SignatureToken) (m : Bool) → element_is d t m ≡ check (is_element d (get_vector_element_type t m)) TYPE_MISMATCH
unfolding element_is ◌>>=◌ look check
guard_is d t m = go (get_vector_element_type t m)
  where
    go : (o : Option SignatureToken) → look (or_err TYPE_MISMATCH o) >>= (λ e. check (same e d) TYPE_MISMATCH) ≡ check (is_element d o) TYPE_MISMATCH
    go none = refl
    go (some e) = refl

module _ {a : List ℕ} {x l : ℕ} {s : List ℕ} {d : ℕ} {m r : Bool} (k : ElementIs a x l s d m r) {t : SignatureToken} (h : Here a x l t) (p : TypeAt s d) where
  test_is : {b : Bool} → r ≡ b → is_element p.type (get_vector_element_type t m) ≡ b
  test_is e = sym (k.is (span h) p) ∙ e

  pub element_then :
      (f : Unit {0} → Step) {g b : List ℕ} {w : ℕ} {q : Stepped} → r ≡ true → StepsTo (f tt) g w b q → StepsTo (element_is p.type t m >>= f) g w b q
  element_then f e z = rw (guard_is p.type t m) (check_then _ f (test_is e) z)

  pub element_bad : (f : Unit {0} → Step) {b : List ℕ} {w : ℕ} → r ≡ false → StepsTo (element_is p.type t m >>= f) b w b (Err TYPE_MISMATCH)
  element_bad f e = rw (guard_is p.type t m) (check_bad f (test_is e))

  pub element_last : {b : List ℕ} {w : ℕ} → r ≡ true → StepsTo (element_is p.type t m) b w b (Ok w)
  element_last e = rw (guard_is p.type t m) (check_last _ (test_is e))

  pub element_last_bad : {b : List ℕ} {w : ℕ} → r ≡ false → StepsTo (element_is p.type t m) b w b (Err TYPE_MISMATCH)
  element_last_bad e = rw (guard_is p.type t m) (check_last_bad (test_is e))
