-- What the proofs of the steps ask of operands: what a look-up that was answered says of a popped type, what a popped reference refers to,
-- and the pushes of a type that the code knows by its command, by its place or by another first byte.
use Rattle.std.proofs.Math.Path.{◌≡◌, ap, sym}
use Rattle.std.specs.Prelude.{refl, Bool, ◌&&◌, ℕ, ◌+◌, ◌-◌, ◌≤◌, ◌<◌, length, take, drop}
use Rattle.std.proofs.Common.{◌∙◌}
use mathlib.Core.List.{List, [], ◌∷◌}
use Rattle.std.proofs.Math.Bool.{true, false}
use Rattle.std.proofs.Math.Option.{some, none}
use native.Mathlib.Omega.{arith}
use Rattle.definitions.specs.SignatureToken.{SignatureToken, Bool', U8, U64, U128, Address, Signer, Vector as VectorOf, Struct as StructOf, StructInstantiation as InstantiationOf, Reference as ReferenceOf, MutableReference as MutableReferenceOf, TypeParameter as ParameterOf, encode, outer}
use Rattle.definitions.specs.Substitution.{inner, mutable_inner, reference_to}
use Rattle.definitions.specs.Machine.{push}
use Rattle.definitions.specs.Places.{At, TypeAt}
use Rattle.theorems.specs.AtLaws.{at_next, at_part}
use Rattle.type_tests.specs.declared.Referent.{Referent}
use Rattle.type_tests.specs.declared.Referent.TheVariants.{Reference, MutableReference, Value}
use Rattle.signature_token.specs.Token.{token_of, encode_pos}
use Rattle.signature_token.specs.TokenLaws.{IsLeaf, leaf_bytes}
use Rattle.type_tests.specs.Kinds.{ReferentAt, LeafAt, referent_of}
use Rattle.signature_token.specs.Same.{Spans, SameAt, same_is}
use Rattle.std.specs.Prelude.{Ok}
use Rattle.type_stack.specs.declared.Entry.{Entry}
use Rattle.type_stack.specs.Answers.{Stepped}
use Rattle.type_stack.specs.Held.{Stacked, Here, Part, part}
use Rattle.type_stack.specs.Tops.{TopOf, TopTwoOf, Topped, topped, topped_two, top_under}
use Rattle.type_stack.specs.Stepping.{StepsTo, push_stands}
use Rattle.type_stack.specs.Pushing.{PushesTo}

-- ── an operand, as the look-ups are asked of it ──

module _ {a : List ℕ} {x l : ℕ} {t : SignatureToken} (h : Here a x l t) where
  abbrev pub operand : TypeAt a x
  operand = record { type = t; stands = h.at }

  abbrev pub span : Spans a x l
  span = record { type = t; stands = h.at; long = h.long }

  -- what the look-ups that were answered yes say of it
  pub leaf_type : {command : ℕ} {r : Bool} {u : SignatureToken} → LeafAt a x command r → r ≡ true → IsLeaf u command → t ≡ u
  leaf_type {u = u} k e i = same_is t u (sym (k operand u i) ∙ e)

  pub same_type : {b : List ℕ} {y m : ℕ} {u : SignatureToken} {r : Bool} → SameAt a x l b y r → r ≡ true → Here b y m u → t ≡ u
  same_type {u = u} k e q = same_is t u (sym (k span (record { type = u; stands = q.at })) ∙ e)

-- the top entry has a byte, and its length stands behind it
pub entry_room : {a : List ℕ} {w x l : ℕ} → Stacked a w → Topped a w x l → (x < x + l) × (x + l + 2 ≤ length a)
entry_room k o =
    let f = k.holds.fits in
    let h = o.heavy in
    let e = o.here.long in
    (omega (arith, encode_pos o.type), omega arith)

-- ── what the pops say ──

module _ {a : List ℕ} {w : ℕ} {x : Entry} (k : Stacked a w) (p : TopOf a w (Ok x)) where
  pub top_type : TypeAt a x.start
  top_type = operand (topped k p).here

  pub top_span : Spans a x.start x.len
  top_span = span (topped k p).here

  pub top_room : (x.start < x.start + x.len) × (x.start + x.len + 2 ≤ length a)
  top_room = entry_room k (topped k p)

  -- a type is pushed where its equal stands, the operand
  pub push_top : {t u : SignatureToken} → Here a x.start x.len u → t ≡ u → StepsTo (push t) a x.start a (Ok w)
  push_top {t} h e = push_stands t k (topped k p) (rw e h.at)

module _ {a : List ℕ} {w : ℕ} {x y : Entry} (k : Stacked a w) (p : TopTwoOf a w (Ok (x, y))) where
  pub first_span : Spans a x.start x.len
  first_span = span (topped_two k p).0.here

  pub first_type : TypeAt a x.start
  first_type = operand (topped_two k p).0.here

  pub first_under : Stacked a x.start
  first_under = (topped_two k p).0.under

  pub second_type : TypeAt a y.start
  second_type = operand (topped_two k p).1.here

  pub second_span : Spans a y.start y.len
  second_span = span (topped_two k p).1.here

  pub second_under : Stacked a y.start
  second_under = (topped_two k p).1.under

  -- a type is pushed where its equal stands, the lower operand
  pub push_second : {t u : SignatureToken} → Here a y.start y.len u → t ≡ u → StepsTo (push t) a y.start a (Ok x.start)
  push_second {t} h e = push_stands t first_under (topped_two k p).1 (rw e h.at)

-- what the calls on operands require: `search` finds the pop among what was learnt
pub ruleset operands = (top_type, top_span, top_under, top_room, first_span, first_type, first_under, second_type, second_span, second_under)

-- ── two tests in a row, r of x and then q of y ──

pub no_left : {r x : Bool} (y : Bool) → r ≡ x → r ≡ false → (x && y) ≡ false
no_left y p e = rw (sym p ∙ e)

module _ {r q x y : Bool} (p : r ≡ x) (e : r ≡ true) (f : q ≡ y) where
  pub no_right : q ≡ false → (x && y) ≡ false
  no_right g = rw (sym p ∙ e, sym f ∙ g)

  pub yes_both : q ≡ true → (x && y) ≡ true
  yes_both g = rw (sym p ∙ e, sym f ∙ g)

-- ── references ──

-- the type t of l bytes at x is a reference, by `mut` a mutable one, to the type at y
pub record Refers (mut : Bool) (a : List ℕ) (x l : ℕ) (t : SignatureToken) (y : ℕ) : Type 0 where
  pub type : SignatureToken
  pub is : t ≡ reference_to mut type
  pub place : y ≡ x + 1
  pub stands : At a y (encode type)
  pub long : l ≡ 1 + length (encode type)

module _ {mut : Bool} {a : List ℕ} {x l : ℕ} {t : SignatureToken} {y : ℕ} (n : Refers mut a x l t y) where
  abbrev pub referent : TypeAt a y
  referent = record { type = n.type; stands = n.stands }

  pub inner_is : inner t ≡ some n.type
  unfolding inner outer reference_to
  inner_is = go mut n.is
    where
      go : (m : Bool) → t ≡ reference_to m n.type → inner t ≡ some n.type
      go true e = ap inner e
      go false e = ap inner e

  pub mutable_is : mut ≡ true → mutable_inner t ≡ some n.type
  unfolding mutable_inner outer reference_to
  mutable_is e = ap mutable_inner (rw e at n.is)

  pub mutable_not : mut ≡ false → mutable_inner t ≡ none
  unfolding mutable_inner outer reference_to
  mutable_not e = ap mutable_inner (rw e at n.is)

  -- the bytes of what is referred to
  pub referent_bytes : encode n.type ≡ part a y (x + l)
  referent_bytes =
      let e : length (encode n.type) ≡ x + l - y = omega (arith, n.place, n.long) in
      sym (at_part (encode n.type) n.stands) ∙ ap (λ (m : ℕ). take m (drop y a)) e

  pub referent_room : {w : ℕ} → Stacked a w → Topped a w x l → (x ≤ y) × Part a y (x + l) × (x + l + 2 ≤ length a)
  referent_room k o =
      let r = (entry_room k o).1 in
      let e = n.place in
      let f = n.long in
      (omega arith, record { order = omega arith; within = omega arith; short = k.small }, r)

-- the three answers of `referent_of`
data View (x : ℕ) (t : SignatureToken) : Type 0 where
  as_reference : (u : SignatureToken) → referent_of (token_of t x) ≡ Reference (x + 1) → t ≡ ReferenceOf u → View x t
  as_mutable : (u : SignatureToken) → referent_of (token_of t x) ≡ MutableReference (x + 1) → t ≡ MutableReferenceOf u → View x t
  as_value : referent_of (token_of t x) ≡ Value → inner t ≡ none → mutable_inner t ≡ none → View x t

view : (x : ℕ) (t : SignatureToken) → View x t
unfolding token_of inner mutable_inner outer
view x Bool' = as_value refl refl refl
view x U8 = as_value refl refl refl
view x U64 = as_value refl refl refl
view x U128 = as_value refl refl refl
view x Address = as_value refl refl refl
view x Signer = as_value refl refl refl
view x (VectorOf t) = as_value refl refl refl
view x (StructOf h) = as_value refl refl refl
view x (InstantiationOf h ts) = as_value refl refl refl
view x (ReferenceOf t) = as_reference t refl refl
view x (MutableReferenceOf t) = as_mutable t refl refl
view x (ParameterOf i) = as_value refl refl refl

module _ {a : List ℕ} {x l : ℕ} {t : SignatureToken} {r : Referent} (k : ReferentAt a x r) (h : Here a x l t) where
  refer : {y b : ℕ} (mut : Bool) (u : SignatureToken) → encode t ≡ b ∷ encode u → t ≡ reference_to mut u → y ≡ x + 1 → Refers mut a x l t y
  refer mut u c e n = record {
    type = u;
    is = e;
    place = n;
    stands = rw n (at_next (rw c at h.at));
    long = let v = h.long in omega (arith, ap length c);
  }

  pub refers : {y : ℕ} → r ≡ Reference y → Refers false a x l t y
  unfolding encode reference_to
  refers {y} e = go (view x t)
    where
      go : View x t → Refers false a x l t y
      go (as_reference u f i) = refer false u (ap encode i) i (cc (k (operand h)))
      go (as_mutable u f i) = let z : ◌≡◌ {A = ℕ} 0 1 = cc (k (operand h)) in absurd (omega arith)
      go (as_value f i j) = let z : ◌≡◌ {A = ℕ} 0 1 = cc (k (operand h)) in absurd (omega arith)

  pub refers_mutably : {y : ℕ} → r ≡ MutableReference y → Refers true a x l t y
  unfolding encode reference_to
  refers_mutably {y} e = go (view x t)
    where
      go : View x t → Refers true a x l t y
      go (as_reference u f i) = let z : ◌≡◌ {A = ℕ} 0 1 = cc (k (operand h)) in absurd (omega arith)
      go (as_mutable u f i) = refer true u (ap encode i) i (cc (k (operand h)))
      go (as_value f i j) = let z : ◌≡◌ {A = ℕ} 0 1 = cc (k (operand h)) in absurd (omega arith)

  -- no reference
  pub refers_not : r ≡ Value → inner t ≡ none
  refers_not e = go (view x t)
    where
      go : View x t → inner t ≡ none
      go (as_reference u f i) = let z : ◌≡◌ {A = ℕ} 0 1 = cc (k (operand h)) in absurd (omega arith)
      go (as_mutable u f i) = let z : ◌≡◌ {A = ℕ} 0 1 = cc (k (operand h)) in absurd (omega arith)
      go (as_value f i j) = i

  -- anything but a mutable reference
  pub no_mutable : ((y : ℕ) → r ≡ MutableReference y → ⊥) → mutable_inner t ≡ none
  unfolding mutable_inner outer
  no_mutable not = go (view x t)
    where
      go : View x t → mutable_inner t ≡ none
      go (as_reference u f i) = ap mutable_inner i
      go (as_mutable u f i) = absurd (not _ (k (operand h) ∙ f))
      go (as_value f i j) = j

-- a type that stands somewhere, as the laws of references ask for it
pub standing : {a : List ℕ} {x : ℕ} (p : TypeAt a x) → Here a x (length (encode p.type)) p.type
standing p = record { at = p.stands; long = refl }

module _ {a : List ℕ} {x : ℕ} {r : Referent} (k : ReferentAt a x r) where
  pub refers_to : {y : ℕ} → r ≡ Reference y → (p : TypeAt a x) → Refers false a x (length (encode p.type)) p.type y
  refers_to e p = refers k (standing p) e

  pub refers_mutably_to : {y : ℕ} → r ≡ MutableReference y → (p : TypeAt a x) → Refers true a x (length (encode p.type)) p.type y
  refers_mutably_to e p = refers_mutably k (standing p) e

  pub reference_type : {y : ℕ} → r ≡ Reference y → TypeAt a x → TypeAt a y
  reference_type e p = referent (refers_to e p)

  pub mutable_type : {y : ℕ} → r ≡ MutableReference y → TypeAt a x → TypeAt a y
  mutable_type e p = referent (refers_mutably_to e p)

-- ── pushes ──

module _ {a b : List ℕ} {w : ℕ} {r : Stepped} where
  -- of a leaf
  pub push_leaf : {command : ℕ} {t : SignatureToken} → PushesTo (command ∷ []) a w b r → IsLeaf t command → StepsTo (push t) a w b r
  push_leaf {t = t} p i = p.steps t (leaf_bytes i)

  module _ {mut : Bool} {x l : ℕ} {t : SignatureToken} {y : ℕ} (n : Refers mut a x l t y) where
    -- of what a reference refers to
    pub push_referent : PushesTo (part a y (x + l)) a w b r → StepsTo (push n.type) a w b r
    push_referent p = p.steps n.type (referent_bytes n)

    -- of the reference, immutable
    pub push_frozen : PushesTo (0x0A ∷ part a (x + 1) (x + l)) a w b r → StepsTo (push (ReferenceOf n.type)) a w b r
    unfolding encode
    push_frozen p = p.steps (ReferenceOf n.type) (ap (λ (bs : List ℕ). 0x0A ∷ bs) (referent_bytes n ∙ ap (λ (m : ℕ). part a m (x + l)) n.place))
