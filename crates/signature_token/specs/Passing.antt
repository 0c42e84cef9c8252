-- How one loop passes the types of a list and those inside them: the type at hand is passed, or what is inside it is left in its place.
use Rattle.std.specs.Prelude.{◌≡◌, ◌⊎◌, refl, List, [], ◌∷◌, ◌++◌, ℕ, ◌+◌, ◌-◌, ◌/◌, ◌%◌, ◌≤◌, ◌<◌, length}
use Rattle.std.proofs.Common.{inl, inr, sym, ap, ◌∙◌, append_assoc, append-nil, arith}
use Rattle.std.proofs.Math.ListN.{length-append}
use Rattle.definitions.specs.SignatureToken.{SignatureToken, SignatureTokens, StructInstantiation as InstantiationOf, []ᵗ, ◌∷ᵗ◌, count, encode, encode_all}
use Rattle.definitions.specs.Places.{At, TypeAt, TypesAt, EndOfType, EndOfTypes}
use Rattle.theorems.specs.AtLaws.{at_next, at_back, at_room}
use Rattle.file_format.specs.declared.StructHandleIndex.{StructHandleIndex}
use Rattle.signature_token.specs.declared.Wrapper.{Wrapper}
use Rattle.signature_token.specs.declared.Wrapper.TheVariants as wrapper
use Rattle.signature_token.specs.declared.Token.{Token}
use Rattle.signature_token.specs.declared.Token.TheVariants.{Leaf, Wrapped, Struct, StructInstantiation, TypeParameter}
use Rattle.signature_token.specs.Token.{TokenAt, wrapped_by, encode_pos, at_some}
use Rattle.signature_token.specs.TokenLaws.{wrapped_at, instantiation_at}
use Rattle.signature_token.specs.Lists.{Left, first_left, type_left, left_after}
use Rattle.signature_token.specs.Ends.{type_room, leaf_end, struct_end, parameter_end}

-- ── arguments before other types ──

unfoldable pub before : SignatureTokens → SignatureTokens → SignatureTokens
before []ᵗ us = us
before (t ∷ᵗ ts) us = t ∷ᵗ before ts us

pub before_count : (ts us : SignatureTokens) → count (before ts us) ≡ count ts + count us
unfolding before count
before_count []ᵗ us = omega arith
before_count (t ∷ᵗ ts) us = omega (arith, before_count ts us)

pub before_bytes : (ts us : SignatureTokens) → encode_all (before ts us) ≡ encode_all ts ++ encode_all us
unfolding before encode
before_bytes []ᵗ us = refl
before_bytes (t ∷ᵗ ts) us = ap (λ (bs : List ℕ). encode t ++ bs) (before_bytes ts us) ∙ sym (append_assoc (encode t) (encode_all ts) (encode_all us))

-- ── what stands inside, before other bytes ──

pub wrapped_opened :
    {s : List ℕ} {p x : ℕ} (v : Wrapper) (t u : SignatureToken) (bs : List ℕ) → u ≡ wrapped_by v t → x ≡ p + 1 → At s p (encode u ++ bs) → At s x (encode t ++ bs)
unfolding encode
wrapped_opened wrapper.Vector t u bs e z h = rw z (at_next (rw e at h))
wrapped_opened wrapper.Reference t u bs e z h = rw z (at_next (rw e at h))
wrapped_opened wrapper.MutableReference t u bs e z h = rw z (at_next (rw e at h))

pub arguments_opened :
    {s : List ℕ} {p x : ℕ} (i : ℕ) (ts : SignatureTokens) (u : SignatureToken) (bs : List ℕ) →
    u ≡ InstantiationOf i ts → x ≡ p + 4 → At s p (encode u ++ bs) → At s x (encode_all ts ++ bs)
unfolding encode
arguments_opened i ts u bs e z h = rw z (at_back (0x09 ∷ i % 256 ∷ i / 256 ∷ count ts ∷ []) (encode_all ts ++ bs) (rw e at h))

-- ── a type that is opened ──

module _ {s : List ℕ} {at : ℕ} {ts : SignatureTokens} {p k : ℕ} {r : Token} (l : 0 < k) (o : Left s at ts p k) (w : TokenAt s p r) where
  -- the inner type is left in the place of the one around it
  unfoldable pub wrapped_left : {v : Wrapper} {x : ℕ} → r ≡ Wrapped v x → Left s at ts x k
  unfolding count encode
  wrapped_left {v} e =
      let f = first_left l o in
      let i = wrapped_at w (record { type = f.first; stands = f.stands }) e in
      record {
        others = i.inner ∷ᵗ f.others;
        counted = omega (arith, f.counted);
        stands = wrapped_opened v i.inner f.first (encode_all f.others) i.is i.place f.whole;
        past = omega (arith, o.past, i.place);
        ends = omega (arith, o.ends, i.place, i.long, f.long, length-append (encode i.inner) (encode_all f.others));
      }

  -- the arguments are left in the place of the struct
  unfoldable pub instantiation_left : {h : StructHandleIndex} {m x : ℕ} → r ≡ StructInstantiation h m x → Left s at ts x (k - 1 + m)
  instantiation_left {h} e =
      let f = first_left l o in
      let i = instantiation_at w (record { type = f.first; stands = f.stands }) e in
      let b = before_bytes i.types f.others in
      record {
        others = before i.types f.others;
        counted = omega (arith, f.counted, i.counted, before_count i.types f.others);
        stands = rw b (arguments_opened h.0 i.types f.first (encode_all f.others) i.is i.place f.whole);
        past = omega (arith, o.past, i.place);
        ends = omega (arith, o.ends, i.place, i.long, f.long, ap length b, length-append (encode_all i.types) (encode_all f.others));
      }

-- ── a turn of the loop ──

-- whatever types stand at `at`, k types at p are left of them
abbrev pub Passing : List ℕ → ℕ → ℕ → ℕ → ℕ → Type 0
Passing s at n p k = (q : TypesAt s at n) → Left s at q.types p k

module _ {s : List ℕ} {at n p k : ℕ} {r : Token} (l : 0 < k) (c : Passing s at n p k) (w : TokenAt s p r) where
  pub leaf_passed : {b : ℕ} → r ≡ Leaf b → Passing s at n (p + 1) (k - 1)
  leaf_passed e q = left_after l (c q) (leaf_end w e) refl

  pub struct_passed : {h : StructHandleIndex} → r ≡ Struct h → Passing s at n (p + 3) (k - 1)
  struct_passed e q = left_after l (c q) (struct_end w e) refl

  pub parameter_passed : {i : ℕ} → r ≡ TypeParameter i → Passing s at n (p + 3) (k - 1)
  parameter_passed e q = left_after l (c q) (parameter_end w e) refl

  -- a struct or a type parameter
  pub index_passed : ((h : StructHandleIndex) × (r ≡ Struct h)) ⊎ ((i : ℕ) × (r ≡ TypeParameter i)) → Passing s at n (p + 3) (k - 1)
  index_passed (inl e) = struct_passed e.1
  index_passed (inr e) = parameter_passed e.1

  pub wrapped_passed : {v : Wrapper} {x : ℕ} → r ≡ Wrapped v x → Passing s at n x k
  wrapped_passed e q = wrapped_left l (c q) w e

  pub instantiation_passed : {h : StructHandleIndex} {m x : ℕ} → r ≡ StructInstantiation h m x → Passing s at n x (k - 1 + m)
  instantiation_passed e q = instantiation_left l (c q) w e

  -- ── there is room, and fewer bytes are left ──

  pub leaf_within : {b : ℕ} → r ≡ Leaf b → TypesAt s at n → p + 1 ≤ length s
  leaf_within e q = let f = type_left l (c q) in omega (arith, leaf_end w e f, type_room f)

  pub struct_within : {h : StructHandleIndex} → r ≡ Struct h → TypesAt s at n → p + 3 ≤ length s
  struct_within e q = let f = type_left l (c q) in omega (arith, struct_end w e f, type_room f)

  pub parameter_within : {i : ℕ} → r ≡ TypeParameter i → TypesAt s at n → p + 3 ≤ length s
  parameter_within e q = let f = type_left l (c q) in omega (arith, parameter_end w e f, type_room f)

  pub index_within : ((h : StructHandleIndex) × (r ≡ Struct h)) ⊎ ((i : ℕ) × (r ≡ TypeParameter i)) → TypesAt s at n → p + 3 ≤ length s
  index_within (inl e) = struct_within e.1
  index_within (inr e) = parameter_within e.1

  pub wrapped_less : {v : Wrapper} {x : ℕ} → r ≡ Wrapped v x → TypesAt s at n → length s - x < length s - p
  wrapped_less e q = let f = type_left l (c q) in omega (arith, (wrapped_at w f e).place, at_some f)

  pub instantiation_less : {h : StructHandleIndex} {m x : ℕ} → r ≡ StructInstantiation h m x → TypesAt s at n → length s - x < length s - p
  instantiation_less e q = let f = type_left l (c q) in omega (arith, (instantiation_at w f e).place, at_some f)

-- no more types than bytes
count_long : (ts : SignatureTokens) → count ts ≤ length (encode_all ts)
unfolding count encode
count_long []ᵗ = omega arith
count_long (t ∷ᵗ ts) = omega (arith, count_long ts, encode_pos t, length-append (encode t) (encode_all ts))

pub left_room : {s : List ℕ} {at : ℕ} {ts : SignatureTokens} {p k : ℕ} (r : Left s at ts p k) → k ≤ length s
left_room r = omega (arith, r.counted, count_long r.others, at_room r.stands)

-- ── a list of one type ──

unfoldable pub one_type : {s : List ℕ} {at : ℕ} → TypeAt s at → TypesAt s at 1
unfolding count encode
one_type p = record { types = p.type ∷ᵗ []ᵗ; counted = refl; stands = rw (append-nil (encode p.type)) p.stands }

pub one_end : {s : List ℕ} {at e : ℕ} → EndOfTypes s at 1 e → EndOfType s at e
unfolding encode one_type
one_end {s} {at} f p = f (one_type p) ∙ ap (λ (bs : List ℕ). at + length bs) (append-nil (encode p.type))
