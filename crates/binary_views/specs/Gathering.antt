-- The walk along an instantiated struct's arguments: the sets of those that are passed stand at the front, and what is left to gather is
-- put behind them.
use Rattle.std.proofs.Math.Path.{◌≡◌, sym, ap}
use Rattle.std.specs.Prelude.{refl, Ok, Err, List, [], ◌∷◌, ◌++◌, ℕ, ◌+◌, ◌≤◌, ◌<◌, length, take, set}
use Rattle.std.proofs.Common.{◌∙◌, append_assoc, append-nil, add-one}
use native.Mathlib.Omega.{arith}
use Rattle.std.proofs.Math.ListN.{length-set}
use Rattle.std.proofs.Math.Seq.{take-suc-set, take-length}
use Rattle.status.specs.declared.StatusCode.{StatusCode}
use Rattle.definitions.specs.Result.{Result, ok, err, ◌>>?◌}
use Rattle.definitions.specs.SignatureToken.{SignatureToken, SignatureTokens, ◌∷ᵗ◌}
use Rattle.definitions.specs.CompiledUnit.{StructHandle}
use Rattle.definitions.specs.Abilities.{abilities_in, abilities_of_all}
use Rattle.definitions.specs.Places.{TypeAt, TypesAt}
use Rattle.file_format.specs.declared.AbilitySet.{AbilitySet}
use Rattle.file_format.specs.Answers.{PartialVMResult, result_of, answer_back}
use Rattle.file_format.specs.AbilitySet.{set_of}
use Rattle.signature_token.specs.TokenLaws.{none_is}
use Rattle.signature_token.specs.Lists.{Rest, left_done, along_start, next_is, rest_next, next_type}
use Rattle.binary_views.specs.Handles.{HandlesAt}
use Rattle.binary_views.specs.Abilities.{AbilitiesAt, AbilitiesToAt, GatheredAt}

-- sets put before those that are gathered later
abbrev pub behind : List ℕ → Result (List ℕ) → Result (List ℕ)
behind front later = later >>? λ sets. ok (front ++ sets)

-- the loop's invariant: of the n types i are passed, with their sets at the front
pub record Gathering (ty : List ℕ) (place n : ℕ) (unit handles constraints sets : List ℕ) (p i : ℕ) : Type 0 where
  pub long : length sets ≡ n
  pub most : i ≤ n
  pub rest : (q : TypesAt ty place n) → Rest ty place n q.types p i
  pub whole : (q : TypesAt ty place n) (h : HandlesAt unit handles) →
      abilities_of_all h.struct_handles constraints q.types ≡ behind (take i sets) (abilities_of_all h.struct_handles constraints (rest q).others)

-- ── sets before sets ──

behind_none : (later : Result (List ℕ)) → later ≡ behind [] later
unfolding ◌>>?◌
behind_none (ok sets) = refl
behind_none (err status) = refl

behind_one : (front : List ℕ) (one : ℕ) (later : Result (List ℕ)) → behind front (later >>? λ sets. ok (one ∷ sets)) ≡ behind (front ++ one ∷ []) later
unfolding ◌>>?◌
behind_one front one (ok sets) = ap ok (sym (append_assoc front (one ∷ []) sets))
behind_one front one (err status) = refl

-- the first of the types, and the others
all_more :
    (hs : List StructHandle) (constraints : List ℕ) {ts others : SignatureTokens} {first : SignatureToken} {r : Result ℕ} →
    ts ≡ first ∷ᵗ others → abilities_in hs constraints first ≡ r →
    abilities_of_all hs constraints ts ≡ (r >>? λ a. abilities_of_all hs constraints others >>? λ sets. ok (a ∷ sets))
unfolding abilities_in
all_more hs constraints e f = rw (e, f)

-- ── the laws ──

module _ {ty : List ℕ} {place n : ℕ} {unit handles constraints sets : List ℕ} where
  pub gathering_start : length sets ≡ n → Gathering ty place n unit handles constraints sets place 0
  gathering_start long = record {
    long = long;
    most = omega arith;
    rest = along_start;
    whole = λ q h. behind_none (abilities_of_all h.struct_handles constraints q.types);
  }

  module _ {p i : ℕ} (g : Gathering ty place n unit handles constraints sets p i) where
    -- the type that comes next
    pub gathering_type : i < n → TypesAt ty place n → TypeAt ty p
    gathering_type l q = next_type l (g.rest q)

    -- what is left, by the answer for the type that comes next
    rest_is :
        {r : PartialVMResult AbilitySet} (l : i < n) → AbilitiesAt ty p unit handles constraints r → (q : TypesAt ty place n) (h : HandlesAt unit handles) →
        abilities_of_all h.struct_handles constraints (g.rest q).others
        ≡ (result_of (λ set. set.0) r >>? λ a. abilities_of_all h.struct_handles constraints (next_is l (g.rest q)).others >>? λ later. ok (a ∷ later))
    rest_is l a q h =
        let k = next_is l (g.rest q) in
        let first = abilities_in h.struct_handles constraints k.first in
        all_more h.struct_handles constraints k.is
        (sym (ap (result_of λ set. set.0) (a.answers (record { type = k.first; stands = k.stands }) h) ∙ answer_back set_of (λ set. set.0) (λ set. refl) first))

    pub gathering_next :
        {a : AbilitySet} {e : ℕ} → i < n → AbilitiesToAt ty p unit handles constraints (Ok (a, e)) → Gathering ty place n unit handles constraints (set sets i a.0) e (i + 1)
    unfolding ◌>>?◌
    gathering_next {a} {e} l f = record {
      long = length-set sets i a.0 ∙ g.long;
      most = omega arith;
      rest = λ q. rest_next l (g.rest q) (f.ends refl);
      whole = λ q h.
          g.whole q h ∙ ap (behind (take i sets)) (rest_is l f.answer q h)
          ∙ behind_one (take i sets) a.0 (abilities_of_all h.struct_handles constraints (next_is l (g.rest q)).others)
          ∙ rw (add-one i, take-suc-set sets i a.0 (omega (arith, g.long)));
    }

    pub gathering_refused :
        {z : StatusCode} {left : List ℕ} → i < n → AbilitiesToAt ty p unit handles constraints (Err z) →
        GatheredAt ty place n unit handles constraints left (Err z)
    unfolding ◌>>?◌
    gathering_refused l f = record {
      answers = λ q h. sym (g.whole q h ∙ ap (behind (take i sets)) (rest_is l f.answer q h));
      ends = λ k. absurd cc;
    }

    pub gathering_done : n ≤ i → GatheredAt ty place n unit handles constraints sets (Ok p)
    unfolding abilities_in ◌>>?◌
    gathering_done l = record {
      answers = λ q h.
          let e : i ≡ length sets = omega (arith, g.most, g.long) in
          let none = none_is (g.rest q).others ((g.rest q).counted ∙ omega arith) in
          sym (g.whole q h ∙ ap (λ ts. behind (take i sets) (abilities_of_all h.struct_handles constraints ts)) none ∙ rw (append-nil (take i sets), e, take-length sets));
      ends = λ {end} k q. let z : p ≡ end = cc in sym z ∙ left_done (omega arith) (g.rest q);
    }
