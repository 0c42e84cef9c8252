-- A list whose types are all instantiated first: its pops and its pushes are those of the list as it is written, each type instantiated
-- at its turn; and the size of all of them tells whether that is so. A list of types that stands in the unit can itself be the
-- arguments, by the places of its types.
use mathlib.Core.List.{List, [], ◌∷◌, reverse, Forall₂}
use Rattle.std.specs.Prelude.{◌≡◌, ℕ, ◌≤◌, Result as Answer, Ok, Err, IsErrAnd}
use Rattle.std.proofs.Math.Path.{refl, ap, ap₂}
use Rattle.std.proofs.Common.{sym, arith}
use mathlib.Mathlib.Data.List.Forall2.{rel-reverse}
use Rattle.status.specs.declared.StatusCode.{StatusCode}
use Rattle.definitions.specs.Result.{Result, ok, err, ◌>>?◌}
use Rattle.definitions.specs.SignatureToken.{SignatureToken, Signature, ◌∷ᵗ◌, arguments, encode_all, same}
use Rattle.definitions.specs.Substitution.{instantiate, instantiate_all, instantiate_each}
use Rattle.definitions.specs.Machine.{Step, ◌>>=◌, pop, push, look, check, pop_one, pop_each, push_one, push_each}
use Rattle.theorems.specs.Bytes.{list_of_arguments}
use Rattle.theorems.specs.Lookups.{used}
use Rattle.definitions.specs.Places.{none}
use Rattle.type_places.specs.Arguments.{Arguments, Arguments-prop}
use Rattle.type_places.specs.Places.{PlacedList}
use Rattle.signature_token.specs.declared.SignatureView.{SignatureView}
use Rattle.record_views.specs.Records.{TypesIn}
use Rattle.record_views.specs.Reread.{types_at}
use Rattle.substitution.specs.declared.Size.{Size}
use Rattle.substitution.specs.Instantiate.{filled_all}
use Rattle.substitution.specs.Size.{SizesAt, size_from}
use Rattle.type_stack.specs.Stepping.{StepsTo}
use Rattle.type_stack.specs.Answers.{Stepped, exit_is}
use Rattle.list_steps.specs.Forms.{PopsEach, PushesEach, InstantiatesEach, instantiates_of}

-- ── each of a list ──

-- f makes us of ts, one by one
abbrev pub MadeOf : (SignatureToken → Result SignatureToken) → Signature → Signature → Type 0
MadeOf f ts us = Forall₂ (λ t u. f t ≡ ok u) ts us

pub made_of : (ts subst : Signature) {us : Signature} → instantiate_each ts subst ≡ ok us → MadeOf (λ t. instantiate t subst) ts us
unfolding instantiate_each
made_of [] subst {us} e = let z : [] ≡ us = cc in rw (← z) Forall₂.nil
made_of (t ∷ ts) subst {us} e =
    let (u, h, k) = used (instantiate t subst) _ e in
    let (vs, i, j) = used (instantiate_each ts subst) _ k in
    let z : u ∷ vs ≡ us = cc in
    rw (← z) (Forall₂.cons h (made_of ts subst i))

module _ (f : SignatureToken → Result SignatureToken) where
  pop_made : (y : StatusCode) {t u : SignatureToken} → f t ≡ ok u → pop_one y ok u ≡ pop_one y f t
  unfolding pop_one look ◌>>=◌
  pop_made y e = ap (λ (r : Result SignatureToken). pop >>= (λ o. look r >>= (λ x. check (same o x) y))) (sym e)

  push_made : {t u : SignatureToken} → f t ≡ ok u → push_one ok u ≡ push_one f t
  unfolding push_one look ◌>>=◌
  push_made e = ap (λ (r : Result SignatureToken). look r >>= push) (sym e)

  pub pops_made : (y : StatusCode) {ts us : Signature} → MadeOf f ts us → pop_each y ok us ≡ pop_each y f ts
  unfolding pop_each
  pops_made y Forall₂.nil = refl
  pops_made y (Forall₂.cons e w) = ap₂ (λ (p q : Step). p >>= (λ _. q)) (pop_made y e) (pops_made y w)

  pub pushes_made : {ts us : Signature} → MadeOf f ts us → push_each ok us ≡ push_each f ts
  unfolding push_each
  pushes_made Forall₂.nil = refl
  pushes_made (Forall₂.cons e w) = ap₂ (λ (p q : Step). p >>= (λ _. q)) (push_made e) (pushes_made w)

-- ── the whole list instantiated first ──

module _ (ts subst : Signature) {us : Signature} (e : instantiate_each ts subst ≡ ok us) where
  pub pops_instantiated : (y : StatusCode) → pop_each y ok (reverse us) ≡ pop_each y (λ t. instantiate t subst) (reverse ts)
  pops_instantiated y = pops_made (λ t. instantiate t subst) y (rel-reverse ts us (made_of ts subst e))

  pub pushes_instantiated : push_each ok us ≡ push_each (λ t. instantiate t subst) ts
  pushes_instantiated = pushes_made (λ t. instantiate t subst) (made_of ts subst e)

module _ {list : SignatureView} {a : List ℕ} {w : ℕ} {r : Stepped} (p : TypesIn list) where
  pub pops_fields : (subst : Signature) {us : Signature} → instantiate_each p.types subst ≡ ok us → {y : StatusCode} → PopsEach (λ t. instantiate t subst) list y a w r → StepsTo (pop_each y ok (reverse us)) a w a r
  pops_fields subst e {y} h = rw (pops_instantiated p.types subst e y) (h.steps p)

module _ {list : SignatureView} {args places a : List ℕ} {w : ℕ} {r : Stepped} (p : TypesIn list) (q : Arguments args places) {us : Signature} (e : instantiate_each p.types q.subst ≡ ok us) where
  pub pushes_fields : {b : List ℕ} → PushesEach list args places a w b r → StepsTo (push_each ok us) a w b r
  pushes_fields h = rw (pushes_instantiated p.types q.subst e) (h.steps p q)

-- ── a list in the unit ──

pub list_small : (list : SignatureView) → list.types.count ≤ 255
list_small list = omega (arith, list.few)

module _ {list : SignatureView} (q : TypesIn list) where
  -- the types of a list, by their places, as arguments
  abbrev pub arguments_of : {bytes places : List ℕ} → PlacedList list.types.bytes.now list.types.at list.types.count bytes places → Arguments bytes places
  arguments_of p = record { subst = q.types; standing = rw (list_of_arguments q.types, ← p.same) at (p.standing (types_at q)) }

  -- there are no others
  pub placed_types : {bytes places : List ℕ} → PlacedList list.types.bytes.now list.types.at list.types.count bytes places → (a : Arguments bytes places) → a.subst ≡ q.types
  placed_types {bytes} {places} p a = ap (λ (b : Arguments bytes places). b.subst) (Arguments-prop bytes places a (arguments_of p))

-- no arguments
pub no_arguments : {bytes : List ℕ} (a : Arguments bytes []) → a.subst ≡ []
no_arguments {bytes} a = ap (λ (b : Arguments bytes []). b.subst) (Arguments-prop bytes [] a (record { subst = []; standing = none }))

-- ── the test ──

each_all : (ts subst : Signature) → instantiate_all (arguments ts) subst ≡ (instantiate_each ts subst >>? λ us. ok (arguments us))
unfolding instantiate instantiate_each arguments ◌>>?◌
each_all [] subst = refl
each_all (t ∷ ts) subst = rw (each_all ts subst) (go (instantiate t subst) (instantiate_each ts subst))
  where
    go : (r : Result SignatureToken) (rs : Result Signature) →
        (r >>? λ u. (rs >>? λ us. ok (arguments us)) >>? λ us. ok (u ∷ᵗ us)) ≡ ((r >>? λ u. rs >>? λ us. ok (u ∷ us)) >>? λ us. ok (arguments us))
    go (ok u) (ok us) = refl
    go (ok u) (err y) = refl
    go (err y) rs = refl

module _ {list : SignatureView} {args places : List ℕ} where
  -- what the size of all tells
  pub sizes_found : {z : Size} → SizesAt list.types.bytes.now list.types.at list.types.count args places (Ok z) → InstantiatesEach list args places (Ok tt)
  unfolding filled_all size_from ◌>>?◌
  sizes_found {z} m = record { is = λ p q. go _ (instantiate_each p.types q.subst) (rw (each_all p.types q.subst) at (m.is (types_at p) q)) }
    where
      go : (end : ℕ) (r : Result Signature) → Ok z ≡ size_from 0 end ((r >>? λ us. ok (arguments us)) >>? λ us. ok (encode_all us)) → Ok tt ≡ instantiates_of r
      go end (ok us) e = refl
      go end (err y) e = absurd cc

  pub sizes_refused :
      {r : Answer (Unit {0}) StatusCode} {v : StatusCode} → IsErrAnd r (λ y. y ≡ v) → SizesAt list.types.bytes.now list.types.at list.types.count args places (Err v) → InstantiatesEach list args places r
  unfolding filled_all size_from ◌>>?◌
  sizes_refused {v = v} h m = rw (exit_is h) (record { is = λ p q. go _ (instantiate_each p.types q.subst) (rw (each_all p.types q.subst) at (m.is (types_at p) q)) })
    where
      go : (end : ℕ) (r : Result Signature) → Err v ≡ size_from 0 end ((r >>? λ us. ok (arguments us)) >>? λ us. ok (encode_all us)) → Err v ≡ instantiates_of r
      go end (ok us) e = absurd cc
      go end (err y) e = cc

-- `instantiates_each`
pub ruleset sizes = (sizes_found, sizes_refused)
