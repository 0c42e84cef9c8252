-- A walk that knows that the parameters of a type are replaced by something: the bytes that come of it, from the type down to the types
-- below it; and the writer's walk along the types of a list.
use Rattle.std.specs.Prelude.{◌≡◌, refl, ℕ, ◌+◌, ◌-◌, ◌≤◌, ◌<◌, take, drop, get_or}
use Rattle.std.proofs.Common.{sym, ◌∙◌, arith, length-append}
use Rattle.std.proofs.Math.Path.{ap}
use mathlib.Core.List.{List, [], ◌++◌, append-nil}
use Rattle.std.proofs.Math.ListN.{length}
use Rattle.definitions.specs.Result.{Result, ok, err, ◌>>?◌}
use Rattle.definitions.specs.SignatureToken.{SignatureToken, SignatureTokens, Signature, count, encode, encode_all}
use Rattle.definitions.specs.Places.{At, TypeAt, TypesAt, EndOfType}
use Rattle.theorems.specs.Bytes.{one_type}
use Rattle.file_format.specs.declared.StructHandleIndex.{StructHandleIndex}
use Rattle.signature_token.specs.declared.Wrapper.{Wrapper}
use Rattle.signature_token.specs.declared.Token.{Token}
use Rattle.signature_token.specs.declared.Token.TheVariants.{Leaf, Wrapped, Struct, StructInstantiation, TypeParameter}
use Rattle.signature_token.specs.Token.{TokenAt}
use Rattle.signature_token.specs.TokenLaws.{leaf_at, leaf_long, wrapped_at, struct_at, instantiation_at, none_is}
use Rattle.signature_token.specs.Lists.{Rest, next_is, rest_next}
use Rattle.signature_token.specs.Ends.{type_room}
use Rattle.signature_token.specs.declared.TypeRef.{TypeRef}
use Rattle.type_places.specs.Arguments.{Arguments, IsPlaced}
use Rattle.substitution.specs.Bytes.{part_long, Fits}
use Rattle.substitution.specs.Instantiate.{filled, filled_all, after, after_nil, after_after, after_ok, filled_none, filled_more, leaf_filled, struct_filled, wrapped_filled, instantiation_filled, parameter_filled, Replaced, argument_of}

-- ── the words ──

-- a type, the arguments, and the bytes that `instantiate` makes of them
pub record Filling (ty : List ℕ) (at : ℕ) (args places : List ℕ) : Type 0 where
  pub from : TypeAt ty at
  pub list : Arguments args places
  pub bytes : List ℕ
  pub is : filled from.type list.subst ≡ ok bytes

-- the same of n types
pub record Fillings (ty : List ℕ) (at n : ℕ) (args places : List ℕ) : Type 0 where
  pub from : TypesAt ty at n
  pub list : Arguments args places
  pub bytes : List ℕ
  pub is : filled_all from.types list.subst ≡ ok bytes

-- the bytes are there, and those from w on have room below `room`. `room` is the length of a slice that is written, which no struct with a ghost
-- field can hold
pub record Room (ty : List ℕ) (at : ℕ) (args places : List ℕ) (w room : ℕ) : Type 0 where
  pub filling : Filling ty at args places
  pub fits : w + length filling.bytes ≤ room

pub record Rooms (ty : List ℕ) (at n : ℕ) (args places : List ℕ) (w room : ℕ) : Type 0 where
  pub filling : Fillings ty at n args places
  pub fits : w + length filling.bytes ≤ room

-- ── the end of a walk: a type without types below it ──

-- the bytes are the k bytes at `at` of s, where a type stands that ends at `end`
pub record Whole (s : List ℕ) (at k : ℕ) (bytes : List ℕ) : Type 0 where
  pub is : bytes ≡ take k (drop at s)
  pub room : k ≤ length s - at
  pub long : length bytes ≡ k

-- the bytes are the k bytes at `at` of ty, and then the bytes of what stands below
pub record Below (ty : List ℕ) (at k : ℕ) (bytes below : List ℕ) : Type 0 where
  pub is : bytes ≡ take k (drop at ty) ++ below
  pub room : k ≤ length ty - at
  pub long : length bytes ≡ k + length below

whole : {s : List ℕ} {at k : ℕ} {bytes : List ℕ} → bytes ≡ take k (drop at s) → k ≤ length s - at → Whole s at k bytes
whole {s} {at} {k} e l = record { is = e; room = l; long = ap length e ∙ part_long s at k l }

below : {s : List ℕ} {at k : ℕ} {bytes cs : List ℕ} → bytes ≡ take k (drop at s) ++ cs → k ≤ length s - at → Below s at k bytes cs
below {s} {at} {k} {bytes} {cs} e l = record {
  is = e;
  room = l;
  long = ap length e ∙ length-append (take k (drop at s)) cs ∙ ap (λ (n : ℕ). n + length cs) (part_long s at k l);
}

-- what stands below a wrapper
pub record Inner (ty : List ℕ) (at : ℕ) (args places : List ℕ) (f : Filling ty at args places) (x : ℕ) : Type 0 where
  pub inner : Filling ty x args places
  pub below : Below ty at 1 f.bytes inner.bytes
  pub ends : x + length (encode inner.from.type) ≡ at + length (encode f.from.type)

-- a struct's arguments
pub record Inners (ty : List ℕ) (at : ℕ) (args places : List ℕ) (f : Filling ty at args places) (n x : ℕ) : Type 0 where
  pub inner : Fillings ty x n args places
  pub below : Below ty at 4 f.bytes inner.bytes
  pub ends : x + length (encode_all inner.from.types) ≡ at + length (encode f.from.type)

-- ── types ──

module _ {ty : List ℕ} {at : ℕ} {r : Token} (w : TokenAt ty at r) {args places : List ℕ} (f : Filling ty at args places) where
  pub leaf_whole : {b : ℕ} → r ≡ Leaf b → Whole ty at 1 f.bytes
  leaf_whole e =
      whole
      (let p = f.is in let q = leaf_filled w f.from f.list.subst e in cc)
      (omega (arith, type_room f.from, leaf_long (leaf_at w f.from e)))

  pub struct_whole : {k : StructHandleIndex} → r ≡ Struct k → Whole ty at 3 f.bytes
  struct_whole e =
      whole
      (let p = f.is in let q = struct_filled w f.from f.list.subst e in cc)
      (omega (arith, type_room f.from, (struct_at w f.from e).long))

  pub wrapped_below : {v : Wrapper} {x : ℕ} → r ≡ Wrapped v x → Inner ty at args places f x
  wrapped_below e =
      let k = wrapped_at w f.from e in
      let a = after_ok (take 1 (drop at ty)) (filled k.inner f.list.subst) (sym (wrapped_filled w f.from f.list.subst e) ∙ f.is) in
      record {
        inner = record { from = record { type = k.inner; stands = k.stands }; list = f.list; bytes = a.bytes; is = a.here };
        below = below a.is (omega (arith, type_room f.from, k.long));
        ends = omega (arith, k.long, k.place);
      }

  pub instantiation_below : {k : StructHandleIndex} {n x : ℕ} → r ≡ StructInstantiation k n x → Inners ty at args places f n x
  instantiation_below e =
      let k = instantiation_at w f.from e in
      let a = after_ok (take 4 (drop at ty)) (filled_all k.types f.list.subst) (sym (instantiation_filled w f.from f.list.subst e) ∙ f.is) in
      record {
        inner = record { from = record { types = k.types; counted = k.counted; stands = k.stands }; list = f.list; bytes = a.bytes; is = a.here };
        below = below a.is (omega (arith, type_room f.from, k.long));
        ends = omega (arith, k.long, k.place);
      }

  pub parameter_replaced : {i : ℕ} → r ≡ TypeParameter i → Replaced args places i f.bytes
  parameter_replaced {i} e = argument_of i f.list.standing (sym (parameter_filled w f.from f.list.subst e) ∙ f.is)

-- ── room ──

-- the argument at `from` has room
pub record ArgumentRoom (args : List ℕ) (from w room : ℕ) : Type 0 where
  pub type : TypeAt args from
  pub fits : w + length (encode type.type) ≤ room

-- an argument by its place
pub placed_room : {args places : List ℕ} {i w room : ℕ} {t : TypeRef} → IsPlaced args places i t → ArgumentRoom args (get_or places i 0) w room → ArgumentRoom t.bytes.now t.at w room
placed_room p m = rw (p.bytes, p.place) m

whole_fits : {s : List ℕ} {at k o room : ℕ} {bytes : List ℕ} → Whole s at k bytes → o + length bytes ≤ room → Fits s at k o room
whole_fits w l = record { there = w.room; free = omega (arith, w.long) }

below_fits : {s : List ℕ} {at k o room : ℕ} {bytes cs : List ℕ} → Below s at k bytes cs → o + length bytes ≤ room → Fits s at k o room
below_fits w l = record { there = w.room; free = omega (arith, w.long) }

module _ {ty : List ℕ} {at : ℕ} {r : Token} (w : TokenAt ty at r) {args places : List ℕ} {o room : ℕ} (m : Room ty at args places o room) where
  pub leaf_fits : {b : ℕ} → r ≡ Leaf b → Fits ty at 1 o room
  leaf_fits e = whole_fits (leaf_whole w m.filling e) m.fits

  pub struct_fits : {k : StructHandleIndex} → r ≡ Struct k → Fits ty at 3 o room
  struct_fits e = whole_fits (struct_whole w m.filling e) m.fits

  pub wrapped_fits : {v : Wrapper} {x : ℕ} → r ≡ Wrapped v x → Fits ty at 1 o room
  wrapped_fits e = below_fits (wrapped_below w m.filling e).below m.fits

  pub instantiation_fits : {k : StructHandleIndex} {n x : ℕ} → r ≡ StructInstantiation k n x → Fits ty at 4 o room
  instantiation_fits e = below_fits (instantiation_below w m.filling e).below m.fits

  -- what is left for the types below
  pub wrapped_room : {v : Wrapper} {x o' : ℕ} → r ≡ Wrapped v x → o' ≡ o + 1 → Room ty x args places o' room
  wrapped_room e k = let i = wrapped_below w m.filling e in record { filling = i.inner; fits = omega (arith, i.below.long, m.fits) }

  pub instantiation_room : {k : StructHandleIndex} {n x o' : ℕ} → r ≡ StructInstantiation k n x → o' ≡ o + 4 → Rooms ty x n args places o' room
  instantiation_room e k = let i = instantiation_below w m.filling e in record { filling = i.inner; fits = omega (arith, i.below.long, m.fits) }

  pub parameter_within : {i : ℕ} → r ≡ TypeParameter i → i < length places
  parameter_within e = (parameter_replaced w m.filling e).within

  pub parameter_room : {i : ℕ} → r ≡ TypeParameter i → ArgumentRoom args (get_or places i 0) o room
  parameter_room e =
      let k = parameter_replaced w m.filling e in
      record { type = record { type = k.type; stands = k.stands }; fits = omega (arith, ap length k.is, m.fits) }

-- ── lists ──

-- of the types ts the first i are passed, and gave the bytes done, of which S holds; the others are left
pub record Gone (ty : List ℕ) (at n : ℕ) (ts : SignatureTokens) (subst : Signature) (p i : ℕ) (S : List ℕ → Type 0) : Type 0 where
  pub rest : Rest ty at n ts p i
  pub done : List ℕ
  pub whole : filled_all ts subst ≡ after done (filled_all rest.others subst)
  pub state : S done

-- one type's bytes between those before it and those after it
pub record Fills (done : List ℕ) (r : Result (List ℕ)) (cs : List ℕ) : Type 0 where
  pub bytes : List ℕ
  pub here : r ≡ ok bytes
  pub others : List ℕ
  pub is : cs ≡ done ++ (bytes ++ others)
  pub within : length done + length bytes ≤ length cs

fills : (done : List ℕ) (r rs : Result (List ℕ)) {cs : List ℕ} → after done (r >>? λ bs. after bs rs) ≡ ok cs → Fills done r cs
unfolding ◌>>?◌
fills done (ok bs) rs {cs} e =
    let a = after_ok done (after bs rs) e in
    let b = after_ok bs rs a.here in
    record {
      bytes = bs;
      here = refl;
      others = b.bytes;
      is = a.is ∙ ap (λ (ds : List ℕ). done ++ ds) b.is;
      within = omega (arith, ap length a.is, length-append done a.bytes, ap length b.is, length-append bs b.bytes);
    }
fills done (err z) rs e = let k = (after_ok done (err z) e).here in let x : ◌≡◌ {A = ℕ} 0 1 = cc in absurd (omega arith)

-- a type's end, known of one type that stands there
end_only : {s : List ℕ} {at e : ℕ} (p : TypeAt s at) → e ≡ at + length (encode p.type) → EndOfType s at e
end_only {s} {at} p k q = k ∙ ap (λ (t : SignatureToken). at + length (encode t)) (one_type p.type q.type p.stands q.stands)

module _ {ty : List ℕ} {at n : ℕ} {ts : SignatureTokens} {subst : Signature} where
  pub gone_start : {S : List ℕ → Type 0} → count ts ≡ n → At ty at (encode_all ts) → S [] → Gone ty at n ts subst at 0 S
  gone_start k h s = record {
    rest = record { others = ts; counted = k ∙ omega arith; stands = h; past = omega arith; ends = refl };
    done = [];
    whole = after_nil (filled_all ts subst);
    state = s;
  }

  module _ {p i : ℕ} {S : List ℕ → Type 0} (g : Gone ty at n ts subst p i S) where
    pub gone_done : n ≤ i → filled_all ts subst ≡ ok g.done
    unfolding after ◌>>?◌
    gone_done l =
        g.whole ∙ rw (none_is g.rest.others (g.rest.counted ∙ omega arith), filled_none subst, append-nil g.done)

    -- the walk ends where the types end
    pub gone_end : n ≤ i → p ≡ at + length (encode_all ts)
    unfolding encode
    gone_end l =
        let z : length (encode_all g.rest.others) ≡ 0 = ap (λ (us : SignatureTokens). length (encode_all us)) (none_is g.rest.others (g.rest.counted ∙ omega arith)) in
        omega (arith, g.rest.ends)

    module _ (l : i < n) where
      -- the type whose turn it is
      abbrev pub turn : TypeAt ty p
      turn = let k = next_is l g.rest in record { type = k.first; stands = k.stands }

      turned : filled_all ts subst ≡ after g.done (filled turn.type subst >>? λ bs. after bs (filled_all (next_is l g.rest).others subst))
      turned = let k = next_is l g.rest in
          g.whole ∙ ap (λ (us : SignatureTokens). after g.done (filled_all us subst)) k.is
          ∙ ap (after g.done) (filled_more k.first k.others subst)

      pub gone_next : {S' : List ℕ → Type 0} {bs : List ℕ} {e : ℕ} → filled turn.type subst ≡ ok bs → e ≡ p + length (encode turn.type) → S' (g.done ++ bs) → Gone ty at n ts subst e (i + 1) S'
      unfolding after ◌>>?◌
      gone_next {S'} {bs} {e} k h s = record {
        rest = rest_next l g.rest (end_only turn h);
        done = g.done ++ bs;
        whole = turned ∙ rw k (after_after g.done bs (filled_all (next_is l g.rest).others subst));
        state = s;
      }

      -- where the whole gives bytes, this type does
      pub turn_fills : {cs : List ℕ} → filled_all ts subst ≡ ok cs → Fills g.done (filled turn.type subst) cs
      turn_fills e = fills g.done (filled turn.type subst) (filled_all (next_is l g.rest).others subst) (sym turned ∙ e)

-- the type whose turn it is in a walk that knows the bytes of the whole
abbrev pub turn_filling :
    {ty : List ℕ} {at n : ℕ} {args places : List ℕ} {p i : ℕ} {S : List ℕ → Type 0} (f : Fillings ty at n args places) →
    Gone ty at n f.from.types f.list.subst p i S → i < n → Filling ty p args places
turn_filling f g l = let k = turn_fills g l f.is in record { from = turn g l; list = f.list; bytes = k.bytes; is = k.here }

-- and its room
pub turn_room :
    {ty : List ℕ} {at n : ℕ} {args places : List ℕ} {p i o o' room : ℕ} {S : List ℕ → Type 0} (m : Rooms ty at n args places o room) →
    (g : Gone ty at n m.filling.from.types m.filling.list.subst p i S) → i < n → o' ≡ o + length g.done → Room ty p args places o' room
turn_room m g l k = record { filling = turn_filling m.filling g l; fits = omega (arith, m.fits, (turn_fills g l m.filling.is).within) }

-- at the end the bytes that were passed are the whole
pub gone_bytes :
    {ty : List ℕ} {at n : ℕ} {args places : List ℕ} {p i : ℕ} {S : List ℕ → Type 0} (f : Fillings ty at n args places) →
    (g : Gone ty at n f.from.types f.list.subst p i S) → n ≤ i → g.done ≡ f.bytes
gone_bytes f g l = let a = gone_done g l in let b = f.is in cc
