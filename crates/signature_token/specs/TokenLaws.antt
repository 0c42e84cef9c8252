-- What a type is whose parts `token` found: one law for each answer, with the types that stand below and how many bytes there are.
use Rattle.std.specs.Prelude.{◌≡◌, refl, List, [], ◌∷◌, ◌++◌, ℕ, ◌+◌, ◌-◌, ◌/◌, ◌%◌, length, get_or}
use Rattle.std.proofs.Common.{sym, ap, ◌∙◌, arith, length-append}
use Rattle.definitions.specs.SignatureToken.{SignatureToken, SignatureTokens, Bool', U8, U64, U128, Address, Signer, Vector as VectorOf, Struct as StructOf, StructInstantiation as InstantiationOf, Reference as ReferenceOf, MutableReference as MutableReferenceOf, TypeParameter as ParameterOf, []ᵗ, ◌∷ᵗ◌, count, encode, encode_all}
use Rattle.definitions.specs.Places.{At, TypeAt, TypesAt}
use Rattle.theorems.specs.AtLaws.{at_byte, at_next, at_back, at_front}
use Rattle.file_format.specs.declared.StructHandleIndex.{StructHandleIndex}
use Rattle.signature_token.specs.declared.Wrapper.{Wrapper}
use Rattle.signature_token.specs.declared.Wrapper.TheVariants as wrapper
use Rattle.signature_token.specs.declared.Token.{Token}
use Rattle.signature_token.specs.declared.Token.TheVariants.{Leaf, Wrapped, Struct, StructInstantiation, TypeParameter}
use Rattle.signature_token.specs.Token.{token_of, TokenAt, handle, wrapped_by}

-- ── the answers ──

-- a leaf and its command
pub data IsLeaf : SignatureToken → ℕ → Type 0 where
  is_bool : IsLeaf Bool' 0x01
  is_u8 : IsLeaf U8 0x02
  is_u64 : IsLeaf U64 0x03
  is_u128 : IsLeaf U128 0x04
  is_address : IsLeaf Address 0x05
  is_signer : IsLeaf Signer 0x06

-- a type around the one at x
pub record IsWrapped (s : List ℕ) (at : ℕ) (t : SignatureToken) (w : Wrapper) (x : ℕ) : Type 0 where
  pub inner : SignatureToken
  pub is : t ≡ wrapped_by w inner
  pub place : x ≡ at + 1
  pub stands : At s x (encode inner)
  pub long : length (encode t) ≡ 1 + length (encode inner)

-- a struct with the n arguments at x
pub record IsInstantiation (s : List ℕ) (at : ℕ) (t : SignatureToken) (h : StructHandleIndex) (n x : ℕ) : Type 0 where
  pub types : SignatureTokens
  pub is : t ≡ InstantiationOf h.0 types
  pub counted : count types ≡ n
  pub byte : get_or s (at + 3) 0 ≡ n
  pub place : x ≡ at + 4
  pub stands : At s x (encode_all types)
  pub long : length (encode t) ≡ 4 + length (encode_all types)

-- a struct or a parameter: so many bytes and no type below
pub record IsIndexed (t u : SignatureToken) : Type 0 where
  pub is : t ≡ u
  pub long : length (encode t) ≡ 3

-- ── the laws ──

-- the five answers
data View (s : List ℕ) (at : ℕ) (t : SignatureToken) : Type 0 where
  as_leaf : (b : ℕ) → token_of t at ≡ Leaf b → IsLeaf t b → View s at t
  as_wrapped : (w : Wrapper) (x : ℕ) → token_of t at ≡ Wrapped w x → IsWrapped s at t w x → View s at t
  as_struct : (k : StructHandleIndex) → token_of t at ≡ Struct k → IsIndexed t (StructOf k.0) → View s at t
  as_instantiation : (k : StructHandleIndex) (n x : ℕ) → token_of t at ≡ StructInstantiation k n x → IsInstantiation s at t k n x → View s at t
  as_parameter : (i : ℕ) → token_of t at ≡ TypeParameter i → IsIndexed t (ParameterOf i) → View s at t

wrapped : {s : List ℕ} {at b : ℕ} (w : Wrapper) (u : SignatureToken) → encode (wrapped_by w u) ≡ b ∷ encode u → At s at (b ∷ encode u) → IsWrapped s at (wrapped_by w u) w (at + 1)
wrapped w u e h = record { inner = u; is = refl; place = refl; stands = at_next h; long = ap length e ∙ omega arith }

view : {s : List ℕ} {at : ℕ} (t : SignatureToken) → At s at (encode t) → View s at t
unfolding encode token_of
view Bool' h = as_leaf 0x01 refl is_bool
view U8 h = as_leaf 0x02 refl is_u8
view U64 h = as_leaf 0x03 refl is_u64
view U128 h = as_leaf 0x04 refl is_u128
view Address h = as_leaf 0x05 refl is_address
view Signer h = as_leaf 0x06 refl is_signer
view {s} {at} (VectorOf t) h = as_wrapped wrapper.Vector (at + 1) refl (wrapped wrapper.Vector t refl h)
view (StructOf i) h = as_struct (handle i) refl (record { is = refl; long = refl })
view {s} {at} (InstantiationOf i ts) h = as_instantiation (handle i) (count ts) (at + 4) refl (record {
  types = ts;
  is = refl;
  counted = refl;
  byte = at_byte (at_back (0x09 ∷ i % 256 ∷ i / 256 ∷ []) (count ts ∷ encode_all ts) h);
  place = refl;
  stands = at_back (0x09 ∷ i % 256 ∷ i / 256 ∷ count ts ∷ []) (encode_all ts) h;
  long = omega arith;
})
view {s} {at} (ReferenceOf t) h = as_wrapped wrapper.Reference (at + 1) refl (wrapped wrapper.Reference t refl h)
view {s} {at} (MutableReferenceOf t) h = as_wrapped wrapper.MutableReference (at + 1) refl (wrapped wrapper.MutableReference t refl h)
view (ParameterOf i) h = as_parameter i refl (record { is = refl; long = refl })

module _ {s : List ℕ} {at : ℕ} {t : SignatureToken} (h : At s at (encode t)) where
  pub leaf_is : {c : ℕ} → token_of t at ≡ Leaf c → IsLeaf t c
  leaf_is {c} e = go (view t h)
    where
      go : View s at t → IsLeaf t c
      go (as_leaf b e' k) = let z : b ≡ c = cc in rw (← z) k
      go (as_wrapped v y e' k) = let z : ◌≡◌ {A = ℕ} 0 1 = cc in absurd (omega arith)
      go (as_struct j e' k) = let z : ◌≡◌ {A = ℕ} 0 1 = cc in absurd (omega arith)
      go (as_instantiation j m y e' k) = let z : ◌≡◌ {A = ℕ} 0 1 = cc in absurd (omega arith)
      go (as_parameter j e' k) = let z : ◌≡◌ {A = ℕ} 0 1 = cc in absurd (omega arith)

  pub wrapped_is : {w : Wrapper} {x : ℕ} → token_of t at ≡ Wrapped w x → IsWrapped s at t w x
  wrapped_is {w} {x} e = go (view t h)
    where
      go : View s at t → IsWrapped s at t w x
      go (as_leaf b e' k) = let z : ◌≡◌ {A = ℕ} 0 1 = cc in absurd (omega arith)
      go (as_wrapped v y e' k) = let p : v ≡ w = cc in let q : y ≡ x = cc in rw (← p, ← q) k
      go (as_struct j e' k) = let z : ◌≡◌ {A = ℕ} 0 1 = cc in absurd (omega arith)
      go (as_instantiation j m y e' k) = let z : ◌≡◌ {A = ℕ} 0 1 = cc in absurd (omega arith)
      go (as_parameter j e' k) = let z : ◌≡◌ {A = ℕ} 0 1 = cc in absurd (omega arith)

  pub struct_is : {i : StructHandleIndex} → token_of t at ≡ Struct i → IsIndexed t (StructOf i.0)
  struct_is {i} e = go (view t h)
    where
      go : View s at t → IsIndexed t (StructOf i.0)
      go (as_leaf b e' k) = let z : ◌≡◌ {A = ℕ} 0 1 = cc in absurd (omega arith)
      go (as_wrapped v y e' k) = let z : ◌≡◌ {A = ℕ} 0 1 = cc in absurd (omega arith)
      go (as_struct j e' k) = let p : j ≡ i = cc in rw (← p) k
      go (as_instantiation j m y e' k) = let z : ◌≡◌ {A = ℕ} 0 1 = cc in absurd (omega arith)
      go (as_parameter j e' k) = let z : ◌≡◌ {A = ℕ} 0 1 = cc in absurd (omega arith)

  pub instantiation_is : {i : StructHandleIndex} {n x : ℕ} → token_of t at ≡ StructInstantiation i n x → IsInstantiation s at t i n x
  instantiation_is {i} {n} {x} e = go (view t h)
    where
      go : View s at t → IsInstantiation s at t i n x
      go (as_leaf b e' k) = let z : ◌≡◌ {A = ℕ} 0 1 = cc in absurd (omega arith)
      go (as_wrapped v y e' k) = let z : ◌≡◌ {A = ℕ} 0 1 = cc in absurd (omega arith)
      go (as_struct j e' k) = let z : ◌≡◌ {A = ℕ} 0 1 = cc in absurd (omega arith)
      go (as_instantiation j m y e' k) = let p : j ≡ i = cc in let q : m ≡ n = cc in let r : y ≡ x = cc in rw (← p, ← q, ← r) k
      go (as_parameter j e' k) = let z : ◌≡◌ {A = ℕ} 0 1 = cc in absurd (omega arith)

  pub parameter_is : {i : ℕ} → token_of t at ≡ TypeParameter i → IsIndexed t (ParameterOf i)
  parameter_is {i} e = go (view t h)
    where
      go : View s at t → IsIndexed t (ParameterOf i)
      go (as_leaf b e' k) = let z : ◌≡◌ {A = ℕ} 0 1 = cc in absurd (omega arith)
      go (as_wrapped v y e' k) = let z : ◌≡◌ {A = ℕ} 0 1 = cc in absurd (omega arith)
      go (as_struct j e' k) = let z : ◌≡◌ {A = ℕ} 0 1 = cc in absurd (omega arith)
      go (as_instantiation j m y e' k) = let z : ◌≡◌ {A = ℕ} 0 1 = cc in absurd (omega arith)
      go (as_parameter j e' k) = let p : j ≡ i = cc in rw (← p) k

-- ── lists ──

-- n types, of which there is one: the first and the others
pub record IsMore (s : List ℕ) (at n : ℕ) (ts : SignatureTokens) : Type 0 where
  pub first : SignatureToken
  pub others : SignatureTokens
  pub is : ts ≡ first ∷ᵗ others
  pub whole : At s at (encode first ++ encode_all others)
  pub stands : At s at (encode first)
  pub after : At s (at + length (encode first)) (encode_all others)
  pub counted : count others ≡ n - 1
  pub long : length (encode_all ts) ≡ length (encode first) + length (encode_all others)

pub more_is : {s : List ℕ} {at n : ℕ} (ts : SignatureTokens) → count ts ≡ n → At s at (encode_all ts) → (n ≡ 0 → ⊥) → IsMore s at n ts
unfolding encode count
more_is []ᵗ e h f = absurd (f (sym e))
more_is (t ∷ᵗ ts) e h f = record {
  first = t;
  others = ts;
  is = refl;
  whole = h;
  stands = at_front (encode t) (encode_all ts) h;
  after = at_back (encode t) (encode_all ts) h;
  counted = omega arith;
  long = length-append (encode t) (encode_all ts);
}

pub none_is : (ts : SignatureTokens) → count ts ≡ 0 → ts ≡ []ᵗ
unfolding count
none_is []ᵗ e = refl
none_is (t ∷ᵗ ts) e = absurd (omega arith)

-- ── the same, of the type that stands where `token` was asked ──

-- a leaf is its command
pub leaf_bytes : {t : SignatureToken} {b : ℕ} → IsLeaf t b → encode t ≡ b ∷ []
unfolding encode
leaf_bytes is_bool = refl
leaf_bytes is_u8 = refl
leaf_bytes is_u64 = refl
leaf_bytes is_u128 = refl
leaf_bytes is_address = refl
leaf_bytes is_signer = refl

pub leaf_long : {t : SignatureToken} {b : ℕ} → IsLeaf t b → length (encode t) ≡ 1
leaf_long k = ap length (leaf_bytes k)

module _ {s : List ℕ} {at : ℕ} {r : Token} (w : TokenAt s at r) (p : TypeAt s at) where
  pub leaf_at : {b : ℕ} → r ≡ Leaf b → IsLeaf p.type b
  leaf_at e = leaf_is p.stands (sym (w p) ∙ e)

  -- the byte where it stands is its command
  pub leaf_byte : {b : ℕ} → r ≡ Leaf b → get_or s at 0 ≡ b
  leaf_byte e = at_byte (rw (leaf_bytes (leaf_at e)) at p.stands)

  pub wrapped_at : {v : Wrapper} {x : ℕ} → r ≡ Wrapped v x → IsWrapped s at p.type v x
  wrapped_at e = wrapped_is p.stands (sym (w p) ∙ e)

  pub struct_at : {k : StructHandleIndex} → r ≡ Struct k → IsIndexed p.type (StructOf k.0)
  struct_at e = struct_is p.stands (sym (w p) ∙ e)

  pub instantiation_at : {k : StructHandleIndex} {n x : ℕ} → r ≡ StructInstantiation k n x → IsInstantiation s at p.type k n x
  instantiation_at e = instantiation_is p.stands (sym (w p) ∙ e)

  pub parameter_at : {i : ℕ} → r ≡ TypeParameter i → IsIndexed p.type (ParameterOf i)
  parameter_at e = parameter_is p.stands (sym (w p) ∙ e)

  -- where the type inside stands
  pub inner_type : {v : Wrapper} {x : ℕ} → r ≡ Wrapped v x → TypeAt s x
  inner_type e = let k = wrapped_at e in record { type = k.inner; stands = k.stands }

  -- where the arguments stand
  pub inner_types : {k : StructHandleIndex} {n x : ℕ} → r ≡ StructInstantiation k n x → TypesAt s x n
  inner_types e = let k = instantiation_at e in record { types = k.types; counted = k.counted; stands = k.stands }
