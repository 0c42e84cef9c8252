-- The bytes of a type whose parameters are replaced, by what `token` found of it: each type gives its own command's bytes and then the
-- bytes of the types below it, and a parameter gives the bytes of its argument. The laws are those of every walk: size, writer, comparison.
use Rattle.std.specs.Prelude.{◌≡◌, refl, ℕ, zero, suc, ◌/◌, ◌%◌, ◌≤◌, ◌<◌, length, take, drop, get_or}
use Rattle.std.proofs.Common.{sym, ◌∙◌, arith}
use Rattle.std.proofs.Math.Path.{ap}
use mathlib.Core.List.{List, [], ◌∷◌, ◌++◌, append_assoc, append-nil}
use Rattle.status.specs.declared.StatusCode.{StatusCode}
use Rattle.status.specs.declared.StatusCode.TheVariants.{OUT_OF_TABLE}
use Rattle.definitions.specs.Result.{Result, ok, err, ◌>>?◌, at as nth}
use Rattle.definitions.specs.SignatureToken.{SignatureToken, SignatureTokens, Signature, Vector, Struct as StructOf, StructInstantiation as InstantiationOf, Reference, MutableReference, []ᵗ, ◌∷ᵗ◌, count, encode, encode_all}
use Rattle.definitions.specs.Substitution.{instantiate, instantiate_all}
use Rattle.definitions.specs.Places as places
use Rattle.definitions.specs.Places.{At, TypeAt, Standing}
use Rattle.theorems.specs.AtLaws.{at_part, at_front}
use Rattle.file_format.specs.declared.StructHandleIndex.{StructHandleIndex}
use Rattle.signature_token.specs.declared.Wrapper.{Wrapper}
use Rattle.signature_token.specs.declared.Wrapper.TheVariants as wrapper
use Rattle.signature_token.specs.declared.Token.{Token}
use Rattle.signature_token.specs.declared.Token.TheVariants.{Leaf, Wrapped, Struct, StructInstantiation, TypeParameter}
use Rattle.signature_token.specs.Token.{TokenAt, wrapped_by}
use Rattle.signature_token.specs.Passing.{before}
use Rattle.signature_token.specs.TokenLaws.{IsLeaf, is_bool, is_u8, is_u64, is_u128, is_address, is_signer, leaf_long, leaf_at, wrapped_at, struct_at, instantiation_at, parameter_at}

-- ── the words ──

-- the bytes of what `instantiate` makes of a type
unfoldable pub filled : SignatureToken → Signature → Result (List ℕ)
filled t subst = instantiate t subst >>? λ u. ok (encode u)

unfoldable pub filled_all : SignatureTokens → Signature → Result (List ℕ)
filled_all ts subst = instantiate_all ts subst >>? λ us. ok (encode_all us)

-- bytes, and what follows them if it is there
unfoldable pub after : List ℕ → Result (List ℕ) → Result (List ℕ)
after bs r = r >>? λ cs. ok (bs ++ cs)

-- ── `after` ──

pub after_nil : (r : Result (List ℕ)) → r ≡ after [] r
unfolding after ◌>>?◌
after_nil (ok bs) = refl
after_nil (err z) = refl

pub after_after : (bs cs : List ℕ) (r : Result (List ℕ)) → after bs (after cs r) ≡ after (bs ++ cs) r
unfolding after ◌>>?◌
after_after bs cs (ok ds) = ap ok (sym (append_assoc bs cs ds))
after_after bs cs (err z) = refl

-- what follows is there where the whole is
pub record Follows (bs : List ℕ) (r : Result (List ℕ)) (cs : List ℕ) : Type 0 where
  pub bytes : List ℕ
  pub here : r ≡ ok bytes
  pub is : cs ≡ bs ++ bytes

pub after_ok : (bs : List ℕ) (r : Result (List ℕ)) {cs : List ℕ} → after bs r ≡ ok cs → Follows bs r cs
unfolding after ◌>>?◌
after_ok bs (ok ds) e = record { bytes = ds; here = refl; is = cc }
after_ok bs (err z) e = let z : ◌≡◌ {A = ℕ} 0 1 = cc in absurd (omega arith)

-- ── lists ──

pub filled_none : (subst : Signature) → filled_all []ᵗ subst ≡ ok []
unfolding filled_all instantiate encode ◌>>?◌
filled_none subst = refl

pub filled_more : (t : SignatureToken) (ts : SignatureTokens) (subst : Signature) → filled_all (t ∷ᵗ ts) subst ≡ (filled t subst >>? λ bs. after bs (filled_all ts subst))
unfolding filled_all filled after instantiate ◌>>?◌ encode
filled_more t ts subst = go (instantiate t subst) (instantiate_all ts subst)
  where
    go : (r : Result SignatureToken) (rs : Result SignatureTokens) →
        ((r >>? λ t'. rs >>? λ ts'. ok (t' ∷ᵗ ts')) >>? λ us. ok (encode_all us)) ≡ ((r >>? λ u. ok (encode u)) >>? λ bs. after bs (rs >>? λ us. ok (encode_all us)))
    go (ok t') (ok ts') = refl
    go (ok t') (err z) = refl
    go (err z) rs = refl

-- one type alone
pub filled_one : (t : SignatureToken) (subst : Signature) → filled_all (t ∷ᵗ []ᵗ) subst ≡ filled t subst
unfolding after ◌>>?◌
filled_one t subst = filled_more t []ᵗ subst ∙ rw (filled_none subst) (go (filled t subst))
  where
    go : (r : Result (List ℕ)) → (r >>? λ bs. after bs (ok [])) ≡ r
    go (ok bs) = ap ok (append-nil bs)
    go (err z) = refl

-- what has bytes in front, before others: they stand in front of it all
pub filled_opened : {r : Result (List ℕ)} (cs : List ℕ) (r' others : Result (List ℕ)) → r ≡ after cs r' → (r >>? λ bs. after bs others) ≡ after cs (r' >>? λ bs. after bs others)
unfolding after ◌>>?◌
filled_opened cs r' others e = rw e (go r')
  where
    go : (r'' : Result (List ℕ)) → (after cs r'' >>? λ bs. after bs others) ≡ after cs (r'' >>? λ bs. after bs others)
    go (ok ds) = sym (after_after cs ds others)
    go (err z) = refl

-- types before other types
pub filled_before : (ts us : SignatureTokens) (subst : Signature) → filled_all (before ts us) subst ≡ (filled_all ts subst >>? λ bs. after bs (filled_all us subst))
unfolding before after ◌>>?◌
filled_before []ᵗ us subst = rw (filled_none subst) (after_nil (filled_all us subst))
filled_before (t ∷ᵗ ts) us subst =
    filled_more t (before ts us) subst ∙ rw (filled_before ts us subst, filled_more t ts subst) (go (filled t subst) (filled_all ts subst))
  where
    go : (r rs : Result (List ℕ)) →
        (r >>? λ bs. after bs (rs >>? λ cs. after cs (filled_all us subst))) ≡ ((r >>? λ bs. after bs rs) >>? λ cs. after cs (filled_all us subst))
    go (ok bs) (ok cs) = after_after bs cs (filled_all us subst)
    go (ok bs) (err z) = refl
    go (err z) rs = refl

-- as many types as there were
pub filled_count : (ts us : SignatureTokens) (subst : Signature) → instantiate_all ts subst ≡ ok us → count us ≡ count ts
unfolding instantiate count ◌>>?◌
filled_count []ᵗ us subst e = let z : []ᵗ ≡ us = cc in rw (← z)
filled_count (t ∷ᵗ ts) us subst e = go (instantiate t subst) (instantiate_all ts subst) (λ vs k. filled_count ts vs subst k) e
  where
    go : (r : Result SignatureToken) (rs : Result SignatureTokens) → ((vs : SignatureTokens) → rs ≡ ok vs → count vs ≡ count ts) →
        (r >>? λ t'. rs >>? λ ts'. ok (t' ∷ᵗ ts')) ≡ ok us → count us ≡ suc (count ts)
    go (ok t') (ok ts') ih k = let z : t' ∷ᵗ ts' ≡ us = cc in rw (← z) (ap suc (ih ts' refl))
    go (ok t') (err z) ih k = let z : ◌≡◌ {A = ℕ} 0 1 = cc in absurd (omega arith)
    go (err z) rs ih k = let z : ◌≡◌ {A = ℕ} 0 1 = cc in absurd (omega arith)

-- ── types, by their constructors ──

filled_leaf : {t : SignatureToken} {b : ℕ} (subst : Signature) → IsLeaf t b → filled t subst ≡ ok (encode t)
unfolding filled instantiate encode ◌>>?◌
filled_leaf subst is_bool = refl
filled_leaf subst is_u8 = refl
filled_leaf subst is_u64 = refl
filled_leaf subst is_u128 = refl
filled_leaf subst is_address = refl
filled_leaf subst is_signer = refl

-- the command of a wrapper
command_of : Wrapper → ℕ
unfolding encode
command_of wrapper.Vector = 0x07
command_of wrapper.Reference = 0x0A
command_of wrapper.MutableReference = 0x0B

encode_wrapped : (v : Wrapper) (t : SignatureToken) → encode (wrapped_by v t) ≡ command_of v ∷ encode t
unfolding encode command_of
encode_wrapped wrapper.Vector t = refl
encode_wrapped wrapper.Reference t = refl
encode_wrapped wrapper.MutableReference t = refl

filled_over : (f : SignatureToken → SignatureToken) (b : ℕ) → ((u : SignatureToken) → encode (f u) ≡ b ∷ encode u) → (r : Result SignatureToken) →
    ((r >>? λ t. ok (f t)) >>? λ u. ok (encode u)) ≡ after (b ∷ []) (r >>? λ u. ok (encode u))
unfolding after ◌>>?◌
filled_over f b e (ok u) = ap ok (e u)
filled_over f b e (err z) = refl

filled_wrapped : (v : Wrapper) (t : SignatureToken) (subst : Signature) → filled (wrapped_by v t) subst ≡ after (command_of v ∷ []) (filled t subst)
unfolding filled instantiate command_of
filled_wrapped wrapper.Vector t subst = filled_over Vector 0x07 (encode_wrapped wrapper.Vector) (instantiate t subst)
filled_wrapped wrapper.Reference t subst = filled_over Reference 0x0A (encode_wrapped wrapper.Reference) (instantiate t subst)
filled_wrapped wrapper.MutableReference t subst = filled_over MutableReference 0x0B (encode_wrapped wrapper.MutableReference) (instantiate t subst)

filled_instantiation : (h : ℕ) (ts : SignatureTokens) (subst : Signature) →
    filled (InstantiationOf h ts) subst ≡ after (0x09 ∷ h % 256 ∷ h / 256 ∷ count ts ∷ []) (filled_all ts subst)
unfolding filled filled_all instantiate encode ◌>>?◌ after
filled_instantiation h ts subst = go (instantiate_all ts subst) (λ us e. filled_count ts us subst e)
  where
    go : (r : Result SignatureTokens) → ((us : SignatureTokens) → r ≡ ok us → count us ≡ count ts) →
        ((r >>? λ ts'. ok (InstantiationOf h ts')) >>? λ u. ok (encode u)) ≡ ((r >>? λ us. ok (encode_all us)) >>? λ cs. ok (0x09 ∷ h % 256 ∷ h / 256 ∷ count ts ∷ cs))
    go (ok us) f = ap (λ (n : ℕ). ok (0x09 ∷ h % 256 ∷ h / 256 ∷ n ∷ encode_all us)) (f us refl)
    go (err z) f = refl

filled_struct : (h : ℕ) (subst : Signature) → filled (StructOf h) subst ≡ ok (encode (StructOf h))
unfolding filled instantiate ◌>>?◌
filled_struct h subst = refl

-- ── types, by what `token` found ──

-- the bytes between the start of what stands at `at` and the start of its last part
front : {s : List ℕ} {at : ℕ} (bs cs : List ℕ) → At s at (bs ++ cs) → take (length bs) (drop at s) ≡ bs
front bs cs h = at_part bs (at_front bs cs h)

module _ {ty : List ℕ} {at : ℕ} {r : Token} (w : TokenAt ty at r) (p : TypeAt ty at) (subst : Signature) where
  pub leaf_filled : {b : ℕ} → r ≡ Leaf b → filled p.type subst ≡ ok (take 1 (drop at ty))
  leaf_filled e =
      let k = leaf_at w p e in
      filled_leaf subst k ∙ ap ok (sym (at_part (encode p.type) p.stands) ∙ ap (λ (n : ℕ). take n (drop at ty)) (leaf_long k))

  pub struct_filled : {k : StructHandleIndex} → r ≡ Struct k → filled p.type subst ≡ ok (take 3 (drop at ty))
  struct_filled {k} e =
      let i = struct_at w p e in
      ap (λ (t : SignatureToken). filled t subst) i.is ∙ filled_struct k.0 subst
      ∙ ap ok (ap encode (sym i.is) ∙ sym (at_part (encode p.type) p.stands) ∙ ap (λ (n : ℕ). take n (drop at ty)) i.long)

  pub wrapped_filled : {v : Wrapper} {x : ℕ} (e : r ≡ Wrapped v x) → filled p.type subst ≡ after (take 1 (drop at ty)) (filled (wrapped_at w p e).inner subst)
  wrapped_filled {v} e =
      let k = wrapped_at w p e in
      let h : At ty at (command_of v ∷ encode k.inner) = rw (encode_wrapped v k.inner) at (rw k.is at p.stands) in
      ap (λ (t : SignatureToken). filled t subst) k.is ∙ filled_wrapped v k.inner subst
      ∙ ap (λ (bs : List ℕ). after bs (filled k.inner subst)) (sym (front (command_of v ∷ []) (encode k.inner) h))

  pub instantiation_filled : {k : StructHandleIndex} {n x : ℕ} (e : r ≡ StructInstantiation k n x) →
      filled p.type subst ≡ after (take 4 (drop at ty)) (filled_all (instantiation_at w p e).types subst)
  unfolding encode
  instantiation_filled {k} e =
      let i = instantiation_at w p e in
      let ts = i.types in
      let h : At ty at (encode (InstantiationOf k.0 ts)) = rw i.is at p.stands in
      ap (λ (t : SignatureToken). filled t subst) i.is ∙ filled_instantiation k.0 ts subst
      ∙ ap (λ (bs : List ℕ). after bs (filled_all ts subst)) (sym (front (0x09 ∷ k.0 % 256 ∷ k.0 / 256 ∷ count ts ∷ []) (encode_all ts) h))

  pub parameter_filled : {i : ℕ} → r ≡ TypeParameter i → filled p.type subst ≡ (nth subst i >>? λ u. ok (encode u))
  unfolding filled instantiate
  parameter_filled e = ap (λ (t : SignatureToken). filled t subst) (parameter_at w p e).is

-- ── arguments ──

-- argument i and where it stands
pub record IsArgument (args places : List ℕ) (subst : Signature) (i : ℕ) : Type 0 where
  pub type : SignatureToken
  pub is : (nth subst i >>? λ u. ok (encode u)) ≡ ok (encode type)
  pub stands : At args (get_or places i 0) (encode type)

pub argument_is : {args places : List ℕ} {subst : Signature} (i : ℕ) → i < length places → Standing args places subst → IsArgument args places subst i
unfolding nth ◌>>?◌
argument_is i l places.none = absurd (omega arith)
argument_is zero l (places.more {p} {t} h w) = record { type = t; is = refl; stands = h }
argument_is (suc i) l (places.more h w) = let k = argument_is i (omega arith) w in record { type = k.type; is = k.is; stands = k.stands }

pub argument_past : {args places : List ℕ} {subst : Signature} (i : ℕ) → length places ≤ i → Standing args places subst → (nth subst i >>? λ u. ok (encode u)) ≡ err OUT_OF_TABLE
unfolding nth ◌>>?◌
argument_past i l places.none = refl
argument_past zero l (places.more h w) = absurd (omega arith)
argument_past (suc i) l (places.more h w) = argument_past i (omega arith) w

-- what takes the place of parameter i, where there is one
pub record Replaced (args places : List ℕ) (i : ℕ) (bytes : List ℕ) : Type 0 where
  pub within : i < length places
  pub type : SignatureToken
  pub stands : At args (get_or places i 0) (encode type)
  pub is : bytes ≡ encode type

pub argument_of : {args places : List ℕ} {subst : Signature} {bytes : List ℕ} (i : ℕ) → Standing args places subst → (nth subst i >>? λ u. ok (encode u)) ≡ ok bytes → Replaced args places i bytes
unfolding nth ◌>>?◌
argument_of i places.none e = let z : ◌≡◌ {A = ℕ} 0 1 = cc in absurd (omega arith)
argument_of zero (places.more {p} {t} h w) e = record { within = omega arith; type = t; stands = h; is = cc }
argument_of (suc i) (places.more h w) e = let k = argument_of i w e in record { within = omega (arith, k.within); type = k.type; stands = k.stands; is = k.is }

-- ── the type that the bytes are of ──

-- what gave the bytes
pub record Instantiated (r : Result SignatureToken) (bytes : List ℕ) : Type 0 where
  pub type : SignatureToken
  pub here : r ≡ ok type
  pub is : bytes ≡ encode type

pub instantiated : (t : SignatureToken) (subst : Signature) {bytes : List ℕ} → filled t subst ≡ ok bytes → Instantiated (instantiate t subst) bytes
unfolding filled ◌>>?◌
instantiated t subst {bytes} e = go (instantiate t subst) e
  where
    go : (r : Result SignatureToken) → (r >>? λ u. ok (encode u)) ≡ ok bytes → Instantiated r bytes
    go (ok u) k = record { type = u; here = refl; is = cc }
    go (err z) k = let x : ◌≡◌ {A = ℕ} 0 1 = cc in absurd (omega arith)

-- nothing is made of a type whose bytes are refused
pub not_instantiated : (t : SignatureToken) (subst : Signature) {y : StatusCode} → filled t subst ≡ err y → instantiate t subst ≡ err y
unfolding filled ◌>>?◌
not_instantiated t subst {y} e = go (instantiate t subst) e
  where
    go : (r : Result SignatureToken) → (r >>? λ u. ok (encode u)) ≡ err y → r ≡ err y
    go (ok u) k = absurd cc
    go (err z) k = cc
