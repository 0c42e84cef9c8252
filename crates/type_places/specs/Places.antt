-- The places of a list's types, and of those that a walk along the list has passed.
use Rattle.std.specs.Prelude.{◌≡◌, refl, ℕ, ◌+◌, ◌≤◌, ◌<◌, length, take, set}
use Rattle.std.proofs.Math.Path.{ap}
use Rattle.std.proofs.Common.{◌∙◌, add-one}
use mathlib.Core.List.{List, [], ◌∷◌, ◌++◌, append_assoc}
use native.Mathlib.Omega.{arith}
use Rattle.std.proofs.Math.ListN.{length-set}
use Rattle.std.proofs.Math.Seq.{take-suc-set}
use Rattle.definitions.specs.SignatureToken.{SignatureToken, SignatureTokens, Signature, encode}
use Rattle.definitions.specs.Places.{At, TypesAt, EndOfType, EndOfTypes, Standing}
use Rattle.theorems.specs.Bytes.{list_of}
use Rattle.theorems.specs.AtLaws.{at_room}
use Rattle.signature_token.specs.Token.{at_some}
use Rattle.signature_token.specs.TokenLaws.{none_is}
use Rattle.type_places.specs.Arguments.{Arguments}
use Rattle.signature_token.specs.Lists.{Rest, along_start, next_is, next_type, rest_next, left_done}

-- each of the types stands at its place and ends at the next one; behind the place of the last type is where it ends
pub data Consecutive (s : List ℕ) : List ℕ → Signature → Type 0 where
  none : {e : ℕ} → Consecutive s (e ∷ []) []
  more : {p e : ℕ} {t : SignatureToken} {ps : List ℕ} {ts : Signature} →
      At s p (encode t) → e ≡ p + length (encode t) → Consecutive s (e ∷ ps) ts → Consecutive s (p ∷ e ∷ ps) (t ∷ ts)

-- out begins with the places of the n types at `at`, which stand one after the other and end at r
pub record PlacesAt (s : List ℕ) (at n : ℕ) (out : List ℕ) (r : ℕ) : Type 0 where
  pub standing : (q : TypesAt s at n) → Standing s (take n out) (list_of q.types)
  pub consecutive : (q : TypesAt s at n) → Consecutive s (take n out ++ r ∷ []) (list_of q.types)
  pub ends : EndOfTypes s at n r

-- one type or more end within the bytes
pub ends_within : {s : List ℕ} {at n : ℕ} {out : List ℕ} {r : ℕ} → 0 < n → TypesAt s at n → PlacesAt s at n out r → r ≤ length s
ends_within l q p = omega (arith, p.ends q, at_room q.stands, at_some (next_type l (along_start q)))

-- the first i places are those of the types passed: with places of the others behind them they are the places of all of ts
pub record Passed (s : List ℕ) (at n : ℕ) (ts : SignatureTokens) (out : List ℕ) (p i : ℕ) : Type 0 where
  pub rest : Rest s at n ts p i
  pub before : (ps : List ℕ) → Consecutive s (p ∷ ps) (list_of rest.others) → Consecutive s (take i out ++ p ∷ ps) (list_of ts)

-- the walk at place p: i of the n types are passed
pub record Placing (s : List ℕ) (at n : ℕ) (out₀ out : List ℕ) (p i : ℕ) : Type 0 where
  pub long : length out ≡ length out₀
  pub most : i ≤ n
  pub each : (q : TypesAt s at n) → Passed s at n q.types out p i

-- the places alone, without the end of the last type
consecutive_standing : {s : List ℕ} (ps : List ℕ) (r : ℕ) {ts : Signature} → Consecutive s (ps ++ r ∷ []) ts → Standing s ps ts
consecutive_standing [] r Consecutive.none = Standing.none
consecutive_standing (p ∷ []) r (Consecutive.more k l w) = Standing.more k (consecutive_standing [] r w)
consecutive_standing (p ∷ e ∷ ps) r (Consecutive.more k l w) = Standing.more k (consecutive_standing (e ∷ ps) r w)

module _ {s : List ℕ} {at n : ℕ} {out : List ℕ} where
  pub placing_start : Placing s at n out out at 0
  placing_start = record { long = refl; most = omega arith; each = λ q. record { rest = along_start q; before = λ ps k. k } }

  pub placing_next :
      {out₀ : List ℕ} {p i e : ℕ} → i < n → i < length out → Placing s at n out₀ out p i → EndOfType s p e → Placing s at n out₀ (set out i p) e (i + 1)
  unfolding list_of
  placing_next {out₀} {p} {i} {e} l m w end = record { long = length-set out i p ∙ w.long; most = omega arith; each = λ q. step q (w.each q) }
    where
      step : (q : TypesAt s at n) → Passed s at n q.types out p i → Passed s at n q.types (set out i p) e (i + 1)
      step q c =
          let k = next_is l c.rest in
          let z : list_of c.rest.others ≡ k.first ∷ list_of k.others = ap list_of k.is in
          record {
            rest = rest_next l c.rest end;
            before = λ ps h.
                rw (add-one i, take-suc-set out i p m, append_assoc (take i out) (p ∷ []) (e ∷ ps))
                (c.before (e ∷ ps) (rw z (Consecutive.more k.stands (end (record { type = k.first; stands = k.stands })) h)));
          }

  pub placing_done : {out₀ : List ℕ} {p i : ℕ} → n ≤ i → Placing s at n out₀ out p i → PlacesAt s at n out p
  unfolding list_of
  placing_done {out₀} {p} {i} l w = record {
    standing = λ q. consecutive_standing (take n out) p (whole q (w.each q));
    consecutive = λ q. whole q (w.each q);
    ends = λ q. left_done (omega arith) (w.each q).rest;
  }
    where
      whole : (q : TypesAt s at n) → Passed s at n q.types out p i → Consecutive s (take n out ++ p ∷ []) (list_of q.types)
      whole q c =
          let z : list_of c.rest.others ≡ [] = ap list_of (none_is c.rest.others (c.rest.counted ∙ omega arith)) in
          let e : i ≡ n = let m = w.most in omega arith in
          rw e at (c.before [] (rw z Consecutive.none))

-- bytes and places are those of the n types at `at`
pub record PlacedList (s : List ℕ) (at n : ℕ) (bytes places : List ℕ) : Type 0 where
  pub same : bytes ≡ s
  pub standing : (q : TypesAt s at n) → Standing s places (list_of q.types)

-- ── the whole list, by the places at the front of out ──

module _ {s : List ℕ} {at n : ℕ} {out : List ℕ} {r : ℕ} (p : PlacesAt s at n out r) where
  pub placed_arguments : TypesAt s at n → Arguments s (take n out)
  placed_arguments q = record { subst = list_of q.types; standing = p.standing q }
