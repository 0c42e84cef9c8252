-- Types that stand at places: what `TypePlaces` keeps of its bytes and places, and the type at one of them.
use Rattle.std.specs.Prelude.{◌≡◌, refl, ℕ, zero, suc, ◌≤◌, ◌<◌, length, get_or, Option, Some, None, IsSome, Ok, Err, ok_or}
use Rattle.std.proofs.Common.{ap₂, arith}
use Rattle.status.specs.declared.StatusCode.{StatusCode}
use mathlib.Core.List.{List, [], ◌∷◌}
use Rattle.definitions.specs.SignatureToken.{Signature}
use Rattle.definitions.specs.Places as places
use Rattle.definitions.specs.Places.{TypeAt, Standing}
use Rattle.signature_token.specs.declared.TypeRef.{TypeRef}
use Rattle.signature_token.specs.Standing.{TypeAt-prop}

-- the types that stand at the places: those that take the parameters' places
pub record Arguments (args places : List ℕ) : Type 0 where
  pub subst : Signature
  pub standing : Standing args places subst

-- ── they are known by the places alone ──

one_more : {s : List ℕ} {p : ℕ} {ps : List ℕ} → TypeAt s p → Arguments s ps → Arguments s (p ∷ ps)
one_more t a = record { subst = t.type ∷ a.subst; standing = places.more t.stands a.standing }

same_standing : {s : List ℕ} (ps : List ℕ) (ts us : Signature) (v : Standing s ps ts) (w : Standing s ps us) →
    ◌≡◌ {A = Arguments s ps} (record { subst = ts; standing = v }) (record { subst = us; standing = w })
unfolding one_more
same_standing [] [] [] places.none places.none = refl
same_standing [] [] (u ∷ us) v w = elim w [ ]
same_standing [] (t ∷ ts) us v w = elim v [ ]
same_standing (p ∷ ps) [] us v w = elim v [ ]
same_standing (p ∷ ps) (t ∷ ts) [] v w = elim w [ ]
same_standing {s} (p ∷ ps) (t ∷ ts) (u ∷ us) (places.more h v) (places.more k w) =
    ap₂ one_more (TypeAt-prop s p (record { type = t; stands = h }) (record { type = u; stands = k })) (same_standing ps ts us v w)

pub Arguments-prop : (s ps : List ℕ) → IsProp (Arguments s ps)
Arguments-prop s ps x y = same_standing ps x.subst y.subst x.standing y.standing

-- ── one of them ──

pub place_type : {s ps : List ℕ} {ts : Signature} (i : ℕ) → i < length ps → Standing s ps ts → TypeAt s (get_or ps i 0)
place_type i l places.none = absurd (omega arith)
place_type zero l (places.more {p} {t} h w) = record { type = t; stands = h }
place_type (suc i) l (places.more h w) = place_type i (omega arith) w

-- r stands at the i-th place
pub record IsPlaced (s ps : List ℕ) (i : ℕ) (r : TypeRef) : Type 0 where
  pub within : i < length ps
  pub bytes : r.bytes.now ≡ s
  pub place : r.at ≡ get_or ps i 0

-- r is the type at the i-th place, if there are so many
pub record PlacedAt (s ps : List ℕ) (i : ℕ) (r : Option TypeRef) : Type 0 where
  pub none : r ≡ None → length ps ≤ i
  pub some : (t : TypeRef) → r ≡ Some t → IsPlaced s ps i t

-- `get(i).unwrap()`
pub type_there : {s ps : List ℕ} {i : ℕ} {o : Option TypeRef} → PlacedAt s ps i o → i < length ps → IsSome o
type_there {s} {ps} {i} {o} p l = go o refl
  where
    go : (o' : Option TypeRef) → o ≡ o' → IsSome o'
    go None k = absurd (omega (arith, p.none k))
    go (Some u) k = refl

-- `get(i).ok_or(why)`
module _ {s ps : List ℕ} {i : ℕ} {o : Option TypeRef} (p : PlacedAt s ps i o) (why : StatusCode) where
  pub type_found : {t : TypeRef} → Ok t ≡ ok_or o why → IsPlaced s ps i t
  type_found {t} e = go o refl e
    where
      go : (o' : Option TypeRef) → o ≡ o' → Ok t ≡ ok_or o' why → IsPlaced s ps i t
      go None k f = absurd cc
      go (Some u) k f = p.some t (cc)

  pub type_missing : {status : StatusCode} → Err status ≡ ok_or o why → (length ps ≤ i) × (status ≡ why)
  type_missing {status} e = go o refl e
    where
      go : (o' : Option TypeRef) → o ≡ o' → Err status ≡ ok_or o' why → (length ps ≤ i) × (status ≡ why)
      go None k f = (p.none k, cc)
      go (Some u) k f = absurd cc
