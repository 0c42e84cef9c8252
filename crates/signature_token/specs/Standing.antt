-- That a type, or a number of types, stands at a place has one proof at most: bytes begin with one type at most. A struct keeps such a fact.
use Rattle.std.specs.Prelude.{◌≡◌, refl, List, ◌++◌, ℕ, drop}
use Rattle.std.specs.Coded.{Coded-set, coded_list, coded_ℕ}
use Rattle.std.proofs.Common.{sym, ap, ◌∙◌, append_assoc, arith}
use mathlib.Core.HLevel.{Σ_prop_path, ×_prop}
use Rattle.definitions.specs.SignatureToken.{SignatureToken, SignatureTokens, []ᵗ, ◌∷ᵗ◌, count, encode, encode_all}
use Rattle.definitions.specs.Places.{TypeAt, TypesAt}
use Rattle.theorems.specs.Bytes.{prefix_code}

-- a list of types of one length is a prefix code too
pub prefix_codes : (ts us : SignatureTokens) (r q : List ℕ) → count ts ≡ count us → encode_all ts ++ r ≡ encode_all us ++ q → (ts ≡ us) × (r ≡ q)
unfolding count encode
prefix_codes []ᵗ []ᵗ r q n e = (refl, e)
prefix_codes []ᵗ (u ∷ᵗ us) r q n e = absurd (omega arith)
prefix_codes (t ∷ᵗ ts) []ᵗ r q n e = absurd (omega arith)
prefix_codes (t ∷ᵗ ts) (u ∷ᵗ us) r q n e =
    let first = prefix_code t u (encode_all ts ++ r) (encode_all us ++ q) (sym (append_assoc (encode t) (encode_all ts) r) ∙ e ∙ append_assoc (encode u) (encode_all us) q) in
    let others = prefix_codes ts us r q (omega arith) first.1 in
    (rw (first.0, others.0), others.1)

-- ── one type ──

module _ {s : List ℕ} {at : ℕ} where
  whole : (x : (p : SignatureToken × List ℕ) × (drop at s ≡ encode p.0 ++ p.1)) → TypeAt s at
  whole x = record { type = x.0.0; stands = record { rest = x.0.1; here = x.1 } }

  parts : TypeAt s at → (p : SignatureToken × List ℕ) × (drop at s ≡ encode p.0 ++ p.1)
  parts x = ((x.type, x.stands.rest), x.stands.here)

  same_parts : (x y : TypeAt s at) → parts x ≡ parts y
  unfolding parts
  same_parts x y =
      let e = prefix_code x.type y.type x.stands.rest y.stands.rest (sym x.stands.here ∙ y.stands.here) in
      Σ_prop_path (λ p. Coded-set (coded_list coded_ℕ) (drop at s) (encode p.0 ++ p.1)) (cc)

pub TypeAt-prop : (s : List ℕ) (at : ℕ) → IsProp (TypeAt s at)
unfolding whole parts
TypeAt-prop s at x y = ap whole (same_parts x y)

-- ── several ──

-- n types and what follows them are what stands there
abbrev Begins : List ℕ → ℕ → ℕ → SignatureTokens × List ℕ → Type 0
Begins s at n p = (count p.0 ≡ n) × (drop at s ≡ encode_all p.0 ++ p.1)

Begins_prop : (s : List ℕ) (at n : ℕ) (p : SignatureTokens × List ℕ) → IsProp (Begins s at n p)
Begins_prop s at n p = ×_prop (Coded-set coded_ℕ (count p.0) n) (Coded-set (coded_list coded_ℕ) (drop at s) (encode_all p.0 ++ p.1))

module _ {s : List ℕ} {at n : ℕ} where
  whole_list : (p : SignatureTokens × List ℕ) × Begins s at n p → TypesAt s at n
  whole_list x = record { types = x.0.0; counted = x.1.0; stands = record { rest = x.0.1; here = x.1.1 } }

  parts_list : TypesAt s at n → (p : SignatureTokens × List ℕ) × Begins s at n p
  parts_list x = ((x.types, x.stands.rest), (x.counted, x.stands.here))

  same_lists : (x y : TypesAt s at n) → parts_list x ≡ parts_list y
  unfolding parts_list
  same_lists x y =
      let e = prefix_codes x.types y.types x.stands.rest y.stands.rest (x.counted ∙ sym y.counted) (sym x.stands.here ∙ y.stands.here) in
      Σ_prop_path (Begins_prop s at n) (cc)

pub TypesAt-prop : (s : List ℕ) (at n : ℕ) → IsProp (TypesAt s at n)
unfolding whole_list parts_list
TypesAt-prop s at n x y = ap whole_list (same_lists x y)
