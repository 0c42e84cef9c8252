-- How deep a type nests, by what `token` found of it, and how deep the types of a list do.
use Rattle.std.specs.Prelude.{◌≡◌, refl, List, ℕ, ◌+◌, ◌≤◌, ◌<◌, max, length}
use Rattle.std.proofs.Math.Path.{sym, ap}
use Rattle.std.proofs.Common.{◌∙◌, arith, length-append}
use Rattle.definitions.specs.SignatureToken.{SignatureToken, SignatureTokens, Bool', U8, U64, U128, Address, Signer, Vector as VectorOf, Struct as StructOf, StructInstantiation as InstantiationOf, Reference as ReferenceOf, MutableReference as MutableReferenceOf, TypeParameter as ParameterOf, []ᵗ, ◌∷ᵗ◌, encode, encode_all, depth, depth_all}
use Rattle.theorems.specs.AtLaws.{at_room}
use Rattle.definitions.specs.Places.{TypeAt, TypesAt, EndOfType}
use Rattle.file_format.specs.declared.StructHandleIndex.{StructHandleIndex}
use Rattle.signature_token.specs.declared.Wrapper.{Wrapper}
use Rattle.signature_token.specs.declared.Wrapper.TheVariants as wrapper
use Rattle.signature_token.specs.declared.Token.{Token}
use Rattle.signature_token.specs.declared.Token.TheVariants.{Leaf, Wrapped, Struct, StructInstantiation, TypeParameter}
use Rattle.signature_token.specs.Token.{TokenAt, wrapped_by}
use Rattle.signature_token.specs.TokenLaws.{IsLeaf, is_bool, is_u8, is_u64, is_u128, is_address, is_signer, leaf_at, wrapped_at, struct_at, instantiation_at, parameter_at, none_is}
use Rattle.signature_token.specs.Lists.{Rest, along_start, next_is, rest_next}

-- ── the words ──

abbrev pub NestingAt : List ℕ → ℕ → ℕ → Type 0
NestingAt s at r = (p : TypeAt s at) → r ≡ depth p.type

abbrev pub NestingsAt : List ℕ → ℕ → ℕ → ℕ → Type 0
NestingsAt s at n r = (q : TypesAt s at n) → r ≡ depth_all q.types

-- ── a type ──

leaf_depth : {t : SignatureToken} {b : ℕ} → IsLeaf t b → depth t ≡ 1
unfolding depth
leaf_depth is_bool = refl
leaf_depth is_u8 = refl
leaf_depth is_u64 = refl
leaf_depth is_u128 = refl
leaf_depth is_address = refl
leaf_depth is_signer = refl

wrapped_depth : (w : Wrapper) (t : SignatureToken) → depth (wrapped_by w t) ≡ depth t + 1
unfolding depth
wrapped_depth wrapper.Vector t = omega arith
wrapped_depth wrapper.Reference t = omega arith
wrapped_depth wrapper.MutableReference t = omega arith

module _ {s : List ℕ} {at : ℕ} {r : Token} (w : TokenAt s at r) where
  pub leaf_nesting : {b : ℕ} → r ≡ Leaf b → NestingAt s at 1
  leaf_nesting e p = sym (leaf_depth (leaf_at w p e))

  pub wrapped_nesting : {v : Wrapper} {x d : ℕ} → r ≡ Wrapped v x → NestingAt s x d → NestingAt s at (d + 1)
  wrapped_nesting {v} e f p =
      let k = wrapped_at w p e in
      ap (λ (n : ℕ). n + 1) (f (record { type = k.inner; stands = k.stands })) ∙ sym (ap depth k.is ∙ wrapped_depth v k.inner)

  pub struct_nesting : {k : StructHandleIndex} → r ≡ Struct k → NestingAt s at 1
  unfolding depth
  struct_nesting e p = sym (ap depth (struct_at w p e).is)

  pub instantiation_nesting : {k : StructHandleIndex} {n x d : ℕ} → r ≡ StructInstantiation k n x → NestingsAt s x n d → NestingAt s at (d + 1)
  unfolding depth
  instantiation_nesting e f p =
      let k = instantiation_at w p e in
      let z = f (record { types = k.types; counted = k.counted; stands = k.stands }) in
      omega (arith, ap depth k.is)

  pub parameter_nesting : {i : ℕ} → r ≡ TypeParameter i → NestingAt s at 1
  unfolding depth
  parameter_nesting e p = sym (ap depth (parameter_at w p e).is)

-- a type nests no deeper than it has bytes
mutual
  unfolding depth encode

  depth_long : (t : SignatureToken) → depth t ≤ length (encode t)
  depth_long Bool' = omega arith
  depth_long U8 = omega arith
  depth_long U64 = omega arith
  depth_long U128 = omega arith
  depth_long Address = omega arith
  depth_long Signer = omega arith
  depth_long (VectorOf t) = omega (arith, depth_long t)
  depth_long (StructOf h) = omega arith
  depth_long (InstantiationOf h ts) = omega (arith, depth_all_long ts)
  depth_long (ReferenceOf t) = omega (arith, depth_long t)
  depth_long (MutableReferenceOf t) = omega (arith, depth_long t)
  depth_long (ParameterOf i) = omega arith

  depth_all_long : (ts : SignatureTokens) → depth_all ts ≤ length (encode_all ts)
  depth_all_long []ᵗ = omega arith
  depth_all_long (t ∷ᵗ ts) = omega (arith, depth_long t, depth_all_long ts, length-append (encode t) (encode_all ts))

pub nesting_fits : {s : List ℕ} {at d : ℕ} → TypeAt s at → NestingAt s at d → d ≤ length s
nesting_fits p f = omega (arith, f p, depth_long p.type, at_room p.stands)

pub nestings_fit : {s : List ℕ} {at n d : ℕ} → TypesAt s at n → NestingsAt s at n d → d ≤ length s
nestings_fit q f = omega (arith, f q, depth_all_long q.types, at_room q.stands)

-- ── a list ──

-- the deepest of those passed and the deepest of those left make up the deepest of all
pub record Deepest (s : List ℕ) (at n : ℕ) (ts : SignatureTokens) (p d i : ℕ) : Type 0 where
  pub rest : Rest s at n ts p i
  pub deepest : depth_all ts ≡ max d (depth_all rest.others)

abbrev pub DeepestAlong : List ℕ → ℕ → ℕ → ℕ → ℕ → ℕ → Type 0
DeepestAlong s at n p d i = (q : TypesAt s at n) → Deepest s at n q.types p d i

module _ {s : List ℕ} {at n : ℕ} where
  pub deepest_start : DeepestAlong s at n at 0 0
  deepest_start q = record { rest = along_start q; deepest = omega arith }

  pub deepest_next :
      {p d i e k m : ℕ} → i < n → DeepestAlong s at n p d i → NestingAt s p k → EndOfType s p e → m ≡ max d k → DeepestAlong s at n e m (i + 1)
  unfolding depth
  deepest_next l w f end z q =
      let c = w q in
      let x = next_is l c.rest in
      let y = f (record { type = x.first; stands = x.stands }) in
      let v = ap depth_all x.is in
      record { rest = rest_next l c.rest end; deepest = omega (arith, c.deepest) }

  pub deepest_done : {p d i : ℕ} → n ≤ i → DeepestAlong s at n p d i → NestingsAt s at n d
  unfolding depth
  deepest_done l w q =
      let c = w q in
      let v = ap depth_all (none_is c.rest.others (c.rest.counted ∙ omega arith)) in
      omega (arith, c.deepest)
