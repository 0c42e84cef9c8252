-- The places of the types of parameters and locals: what it is that they are found, and that a look-up by them is `local_at` and says where the
-- type ends.
use Rattle.std.specs.Prelude.{cond, List, [], ◌∷◌, ◌≡◌, ℕ, zero, suc, ◌+◌, ◌-◌, ◌≤◌, ◌<◌, ltb, take, drop, set, get_or, Result, Ok, Err}
use Rattle.std.proofs.Math.Path.{refl}
use Rattle.std.proofs.Common.{ap, ◌∙◌, add-one, arith, length-drop, length-set, take-suc-set}
use Rattle.std.proofs.lemmas.List.{length-take}
use Rattle.std.proofs.Math.Decide.{dec_le}
use Rattle.std.proofs.Math.ListN.{length}
use borrow.Author.Tests.{le-ltb, lt-ltb}
use Rattle.status.specs.declared.StatusCode.{StatusCode}
use Rattle.status.specs.declared.StatusCode.TheVariants.{OUT_OF_TABLE}
use Rattle.definitions.specs.Result as results
use Rattle.definitions.specs.Result.{at}
use Rattle.definitions.specs.SignatureToken.{SignatureToken, Signature, encode}
use Rattle.definitions.specs.CompiledUnit as defs
use Rattle.definitions.specs.Places.{At, TypeAt, EndOfType}
use Rattle.theorems.specs.Bytes.{list_of_arguments, one_type}
use Rattle.type_places.specs.Places.{Consecutive, PlacesAt}
use Rattle.signature_token.specs.declared.SignatureView.{SignatureView}
use Rattle.record_views.specs.Records.{ListIs}
use Rattle.record_views.specs.Reread.{types_at}
use Rattle.signature_token.specs.Ends.{type_room}
use Rattle.unit_tables.specs.declared.UnitView.{UnitView}
use Rattle.unit_tables.specs.Tables.{unit_short}
use Rattle.unit_tables.specs.Compiled.{unit_read}
use Rattle.unit_tables.specs.Answers.{ResultIs, what_found}
use Rattle.locals.specs.Places.{LocalPlaces}
use Rattle.locals.specs.declared.LocalType.{LocalType}

-- the type at entry i
abbrev pub bounds_at : List ℕ → ℕ → LocalType
bounds_at places i = record { at = get_or places i 0; end = get_or places (i + 1) 0 }

-- the type of local i
unfoldable pub place_of : List ℕ → List ℕ → ℕ → Result LocalType StatusCode
place_of parameters locals i =
    let j = i + 1 - length parameters in
    cond (ltb (i + 1) (length parameters)) (Ok (bounds_at parameters i)) (cond (ltb (j + 1) (length locals)) (Ok (bounds_at locals j)) (Err OUT_OF_TABLE))

-- out begins with the places of the types of a signature and the end of the last one, n entries
pub record PlacesIn (s : List ℕ) (ts : Signature) (out : List ℕ) (n : ℕ) : Type 0 where
  pub fits : n ≤ length out
  pub consecutive : Consecutive s (take n out) ts

-- the type t stands and ends where r says
pub record LocalIs (s : List ℕ) (t : SignatureToken) (r : LocalType) : Type 0 where
  pub stands : At s r.at (encode t)
  pub ends : EndOfType s r.at r.end

-- ── the three ways of a look-up ──

module _ (parameters locals : List ℕ) {i j : ℕ} (e : j ≡ i) where
  pub place_parameter : {r : LocalType} → j + 1 < length parameters → r ≡ bounds_at parameters j → Ok r ≡ place_of parameters locals i
  unfolding place_of
  place_parameter h k = rw (← e, lt-ltb (j + 1) (length parameters) h, k) refl

  module _ (h : length parameters ≤ j + 1) where
    pub place_local :
        {r : LocalType} → j + 1 - length parameters + 1 < length locals → r ≡ bounds_at locals (j + 1 - length parameters) → Ok r ≡ place_of parameters locals i
    unfolding place_of
    place_local m k = rw (← e, le-ltb (j + 1) (length parameters) h, lt-ltb (j + 1 - length parameters + 1) (length locals) m, k) refl

    pub place_past : length locals ≤ j + 1 - length parameters + 1 → Err OUT_OF_TABLE ≡ place_of parameters locals i
    unfolding place_of
    place_past m = rw (← e, le-ltb (j + 1) (length parameters) h, le-ltb (j + 1 - length parameters + 1) (length locals) m) refl

pub ruleset place_laws = (place_parameter, place_local, place_past)

-- ── types at their places ──

as_many : {s places : List ℕ} {ts : Signature} → Consecutive s places ts → length places ≡ suc (length ts)
as_many Consecutive.none = refl
as_many (Consecutive.more k l r) = ap suc (as_many r)

nth_bounds : {s places : List ℕ} {ts : Signature} → Consecutive s places ts → (i : ℕ) → i + 1 < length places → ResultIs (LocalIs s) (at ts i) (Ok (bounds_at places i))
unfolding at
nth_bounds Consecutive.none i h = absurd (omega arith)
nth_bounds (Consecutive.more {p} {t = t} k l r) zero h = record {
  is = record {
    stands = k;
    ends = λ q. l ∙ ap (λ (u : SignatureToken). p + length (encode u)) (one_type t q.type k q.stands);
  };
}
nth_bounds (Consecutive.more k l r) (suc i) h = rw (add-one (suc i)) (rw (add-one i) at (nth_bounds r i (omega arith)))

bounds_past : {s places : List ℕ} {ts : Signature} → Consecutive s places ts → (i : ℕ) → length places ≤ i + 1 → ResultIs (LocalIs s) (at ts i) (Err OUT_OF_TABLE)
unfolding at
bounds_past Consecutive.none i h = record { is = refl }
bounds_past (Consecutive.more k l r) zero h = absurd (omega arith)
bounds_past (Consecutive.more k l r) (suc i) h = bounds_past r i (omega arith)

-- a unit's bytes are few
pub unit_room : (unit : UnitView) → length unit.bytes.now ≤ 65535
unit_room unit = omega (arith, unit_short (unit_read unit))

-- of no types there is one entry, which is anything
pub no_places : {s out : List ℕ} {ts : Signature} → length ts ≡ 0 → 0 < length out → PlacesIn s ts out 1
no_places {s} {out} {ts} e h = record { fits = omega arith; consecutive = go ts out e h }
  where
    go : (us : Signature) (l : List ℕ) → length us ≡ 0 → 0 < length l → Consecutive s (take 1 l) us
    go [] [] d m = absurd (omega arith)
    go [] (x ∷ l) d m = Consecutive.none
    go (t ∷ us) l d m = absurd (omega arith)

-- a walk along a list has found its places, and where the last type ends is written behind them
pub places_in :
    {s out : List ℕ} {ts : Signature} {list : SignatureView} {e : ℕ} → ListIs ts list → PlacesAt list.types.bytes.now list.types.at list.types.count out e →
    list.types.bytes.now ≡ s → list.types.count < length out → PlacesIn s ts (set out list.types.count e) (list.types.count + 1)
places_in {out = out} {ts} {list} {e} q p k h =
    let n = list.types.count in
    record {
      fits = omega (arith, length-set out n e);
      consecutive = rw (add-one n, take-suc-set out n e h, ← k) (rw (list_of_arguments ts) at (p.consecutive (types_at (record { types = ts; are = q }))));
    }

pub ruleset listed_laws = (no_places, unit_room)

-- THE LOOK-UP BY PLACES IS `local_at`
module _ {s parameters locals : List ℕ} (u : defs.CompiledUnit) (k : LocalPlaces s u.function parameters locals) (i : ℕ) where
  is_parameter : i + 1 < length parameters → defs.local_at u i ≡ at u.function.parameters i
  unfolding defs.local_at
  is_parameter h = rw (lt-ltb i (length u.function.parameters) (omega (arith, as_many k.0))) refl

  is_local : length parameters ≤ i + 1 → defs.local_at u i ≡ at u.function.locals (i + 1 - length parameters)
  unfolding defs.local_at
  is_local h =
      let n = length u.function.parameters in
      let e : i + 1 - length parameters ≡ i - n = omega (arith, as_many k.0) in
      rw (le-ltb i n (omega (arith, as_many k.0)), e) refl

  pub local_type : {r : Result LocalType StatusCode} → r ≡ place_of parameters locals i → ResultIs (LocalIs s) (defs.local_at u i) r
  local_type e = rw e (go (dec_le (length parameters) (i + 1)) (dec_le (length locals) (i + 1 - length parameters + 1)))
    where
      go : Dec (length parameters ≤ i + 1) → Dec (length locals ≤ i + 1 - length parameters + 1) → ResultIs (LocalIs s) (defs.local_at u i) (place_of parameters locals i)
      go (no h) d = let m : i + 1 < length parameters = omega arith in rw (is_parameter m, ← place_parameter parameters locals refl m refl) (nth_bounds k.0 i m)
      go (yes h) (no l) =
          let m : i + 1 - length parameters + 1 < length locals = omega arith in
          rw (is_local h, ← place_local parameters locals refl h m refl) (nth_bounds k.1 (i + 1 - length parameters) m)
      go (yes h) (yes l) = rw (is_local h, ← place_past parameters locals refl h l) (bounds_past k.1 (i + 1 - length parameters) l)

-- ── the type of a local that was found ──

module _ {s : List ℕ} {g : results.Result SignatureToken} {r : LocalType} (w : ResultIs (LocalIs s) g (Ok r)) where
  pub local_stands : TypeAt s r.at
  local_stands = let n = what_found w in record { type = n.0; stands = n.2.stands }

  pub local_ends : EndOfType s r.at r.end
  local_ends = (what_found w).2.ends

  pub local_order : r.at ≤ r.end
  local_order = omega (arith, local_ends local_stands)

  pub local_within : r.end ≤ length s
  local_within = omega (arith, local_ends local_stands, type_room local_stands)

-- the type that a look-up tells
abbrev pub local_here : {s : List ℕ} {t : SignatureToken} {r : LocalType} → LocalIs s t r → TypeAt s r.at
local_here {t = t} l = record { type = t; stands = l.stands }

-- a part of a unit's bytes is short
pub unit_part : (unit : UnitView) (n from : ℕ) → length (take n (drop from unit.bytes.now)) ≤ 65535
unit_part unit n from = omega (arith, length-take n (drop from unit.bytes.now), length-drop from unit.bytes.now, unit_room unit)

-- what the calls on it require
pub ruleset local_rooms = (local_stands, local_order, local_within, unit_part)
