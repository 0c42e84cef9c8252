-- The laws of a struct with its arguments: its bytes, its writer and its comparison.
use Rattle.std.specs.Prelude.{◌≡◌, refl, List, [], ◌∷◌, ◌++◌, Bool, true, false, ℕ, zero, suc, ◌+◌, ◌-◌, ◌/◌, ◌%◌, ◌≤◌, length, take, drop, eqb}
use Rattle.std.specs.List.{starts_with}
use Rattle.std.proofs.Common.{sym, ap, ◌∙◌, append_assoc, drop-drop, arith, length-append, length-take-le}
use Rattle.std.proofs.lemmas.List.{take_at, drop_at}
use Rattle.definitions.specs.SignatureToken.{SignatureToken, SignatureTokens, []ᵗ, ◌∷ᵗ◌, arguments, count, encode, encode_all, same}
use Rattle.definitions.specs.Substitution.{materialize_type}
use Rattle.definitions.specs.Places.{At, TypesAt}
use Rattle.theorems.specs.AtLaws.{at_room, at_front, at_back}
use Rattle.theorems.specs.Bytes.{list_of, arguments_list_of, one_type}
use Rattle.signature_token.specs.Same.{Spans, same_yes, same_no}
use Rattle.substitution.specs.Bytes.{over, Tells, start_told, at_append}
use Rattle.materialize_type.specs.declared.MaterializedType.{MaterializedType}
use Rattle.materialize_type.specs.Materialized.{type_of}
use Rattle.materialize_type.specs.Materialize.{command_bytes, command_length, IsCommand, IsLength, ArgumentList, materialized, MaterializedSize}

-- ── its bytes ──

pub command_none : (h n : ℕ) → n ≡ 0 → IsCommand h n (0x08 ∷ h % 256 ∷ h / 256 ∷ n ∷ [])
unfolding command_bytes
command_none h zero e = record { is = refl }
command_none h (suc n) e = absurd (omega arith)

pub command_some : (h n : ℕ) → (n ≡ 0 → ⊥) → IsCommand h n (0x09 ∷ h % 256 ∷ h / 256 ∷ n ∷ [])
unfolding command_bytes
command_some h zero e = absurd (e refl)
command_some h (suc n) e = record { is = refl }

pub length_none : (n : ℕ) → n ≡ 0 → IsLength n 3
unfolding command_length
length_none zero e = record { is = refl }
length_none (suc n) e = absurd (omega arith)

pub length_some : (n : ℕ) → (n ≡ 0 → ⊥) → IsLength n 4
unfolding command_length
length_some zero e = absurd (e refl)
length_some (suc n) e = record { is = refl }

command_short : (n : ℕ) → command_length n ≤ 4
unfolding command_length
command_short zero = omega arith
command_short (suc n) = omega arith

pub length_short : {n k : ℕ} → IsLength n k → k ≤ 4
length_short {n} e = omega (arith, e.is, command_short n)

command_four : (h n : ℕ) → length (command_bytes h n) ≡ 4
unfolding command_bytes
command_four h zero = refl
command_four h (suc n) = refl

materialized_bytes : (h : ℕ) (ts : SignatureTokens) → encode (materialized h ts) ≡ take (command_length (count ts)) (command_bytes h (count ts)) ++ encode_all ts
unfolding materialize_type list_of arguments count encode command_bytes command_length
materialized_bytes h []ᵗ = refl
materialized_bytes h (t ∷ᵗ ts) =
    ap (λ (us : SignatureTokens). 0x09 ∷ h % 256 ∷ h / 256 ∷ suc (count us) ∷ (encode t ++ encode_all us)) (arguments_list_of ts)

front_long : (h n : ℕ) → length (take (command_length n) (command_bytes h n)) ≡ command_length n
front_long h n = length-take-le (command_length n) (command_bytes h n) (omega (arith, command_short n, command_four h n))

pub size_is :
    (h : ℕ) (ts : SignatureTokens) {n k : ℕ} {bs : List ℕ} → count ts ≡ n → IsLength n k → bs ≡ encode_all ts → k + length bs ≡ length (encode (materialized h ts))
size_is h ts {n} c f is =
    let m = count ts in
    omega (
      arith,
      ap length (materialized_bytes h ts),
      length-append (take (command_length m) (command_bytes h m)) (encode_all ts),
      front_long h m,
      f.is,
      ap command_length c,
      ap length is,
    )

-- and where its arguments stand
pub size_between : {first n end k : ℕ} → IsLength n k → MaterializedSize first n end (k + (end - first))
size_between {first} {n} {end} {k} f = record {
  is = λ h args l. ap (λ (x : ℕ). k + x) (sym (ends_apart l)) ∙ size_is h l.types.types l.types.counted f refl;
}
  where
    ends_apart : {args : List ℕ} (l : ArgumentList args first n end) → length (encode_all l.types.types) ≡ end - first
    ends_apart l = omega (arith, l.ends)

-- the arguments, as the size of a struct takes them
abbrev pub arguments_of : (m : MaterializedType) → ArgumentList m.type_args.types.bytes.now m.type_args.types.at m.type_args.types.count m.end
arguments_of m = record { types = m.type_args.types.stand; ends = m.ends m.type_args.types.stand; few = m.type_args.few }

-- it has little more than its arguments
pub made_short : (m : MaterializedType) → length (encode (type_of m)) ≤ 4 + length m.type_args.types.bytes.now
made_short m =
    let q = m.type_args.types.stand in
    omega (arith, size_is m.struct_handle.0 q.types refl (record { is = refl }) refl, command_short (count q.types), at_room q.stands)

-- and so its size is a number
pub room_made : {s : List ℕ} {at n m k : ℕ} {bs : List ℕ} (q : TypesAt s at n) → IsLength m k → bs ≡ encode_all q.types → k + length bs ≤ 4 + length s
room_made q f is = omega (arith, length_short f, at_room q.stands, ap length is)

-- bs written over the front of d, and cs behind it
two_parts : (d bs cs : List ℕ) {k : ℕ} → length bs ≡ k →
    take k (bs ++ drop k d) ++ (cs ++ drop (k + length cs - k) (drop k (bs ++ drop k d))) ≡ over (bs ++ cs) d
two_parts d bs cs {k} e =
    let z : k + length cs - k ≡ length cs = omega arith in
    let w : length (bs ++ cs) ≡ k + length cs = omega (arith, length-append bs cs) in
    rw (take_at bs (drop k d) k e, drop_at bs (drop k d) k e, z, drop-drop (length cs) k d, ← append_assoc bs cs (drop (k + length cs) d), w) refl

-- the command b and the arguments' bytes
module _ {h n : ℕ} {b : List ℕ} {k : ℕ} (e : IsCommand h n b) (f : IsLength n k) where
  pub command_there : k ≤ length b
  command_there = omega (arith, command_short n, command_four h n, ap length e.is, f.is)

  pub head_long : k ≡ length (take k b)
  head_long = sym (length-take-le k b command_there)

  pub laid : (ts : SignatureTokens) → count ts ≡ n → encode (materialized h ts) ≡ take k b ++ encode_all ts
  laid ts c = materialized_bytes h ts ∙ rw (c, e.is, f.is)

  -- ── writer ──

  -- the command first, and then the arguments
  pub written : (ts : SignatureTokens) (d : List ℕ) → count ts ≡ n →
      take k (take k b ++ drop k d) ++ (encode_all ts ++ drop (k + length (encode_all ts) - k) (drop k (take k b ++ drop k d)))
      ≡ over (encode (materialized h ts)) d
  written ts d c = two_parts d (take k b) (encode_all ts) (length-take-le k b command_there) ∙ ap (λ (bs : List ℕ). over bs d) (sym (laid ts c))

  -- ── comparison ──

  module _ (ts : SignatureTokens) (c : count ts ≡ n) {s : List ℕ} {x len : ℕ} where
    -- the struct's bytes, where its type is the one at x
    laid_at : (p : Spans s x len) → p.type ≡ materialized h ts → At s x (take k b ++ encode_all ts)
    laid_at p q = rw (← laid ts c, ← q) p.stands

    pub command_differs :
        {r : Bool} → r ≡ starts_with eqb (take (length s - x) (drop x s)) (take k b) → r ≡ false → (p : Spans s x len) → r ≡ same p.type (materialized h ts)
    command_differs told e p =
        let d : Tells false (At s x (take k b)) = start_told s x (take k b) false (rw e at told) in
        e ∙ sym (same_no p.type (materialized h ts) (λ q. d (at_front (take k b) (encode_all ts) (laid_at p q))))

    compared : (r : Bool) → Tells true (At s x (take k b)) → Tells r (At s (x + k) (encode_all ts)) → (p : Spans s x len) → r ≡ same p.type (materialized h ts)
    compared true d v p =
        let z = length-take-le k b command_there in
        let w : x + k ≡ x + length (take k b) = omega arith in
        let a : At s x (encode (materialized h ts)) = rw (laid ts c) (at_append (take k b) (encode_all ts) d (rw w at v)) in
        sym (same_yes p.type (materialized h ts) (one_type p.type (materialized h ts) p.stands a))
    compared false d v p =
        let z = length-take-le k b command_there in
        let w : x + k ≡ x + length (take k b) = omega arith in
        sym (same_no p.type (materialized h ts) (λ q. v (rw w (at_back (take k b) (encode_all ts) (laid_at p q)))))

    pub arguments_compared :
        {q r : Bool} {bs : List ℕ} → q ≡ starts_with eqb (take (length s - x) (drop x s)) (take k b) → q ≡ true → bs ≡ encode_all ts →
        r ≡ starts_with eqb (take (length s - (x + k)) (drop (x + k) s)) bs → (p : Spans s x len) → r ≡ same p.type (materialized h ts)
    arguments_compared {r = r} told e is rest =
        compared r (start_told s x (take k b) true (rw e at told)) (start_told s (x + k) (encode_all ts) r (rw is at rest))

-- another length
pub length_differs :
    (h : ℕ) (ts : SignatureTokens) {n k : ℕ} {bs s : List ℕ} {x len : ℕ} → count ts ≡ n → IsLength n k → bs ≡ encode_all ts → (len ≡ k + length bs → ⊥) →
    (p : Spans s x len) → false ≡ same p.type (materialized h ts)
length_differs h ts c f is d p =
    sym (same_no p.type (materialized h ts) (λ q.
    d (omega (arith, p.long, size_is h ts c f is, ap (λ (t : SignatureToken). length (encode t)) q))))

-- the part of the command that counts
pub ruleset head = (command_there, head_long)
