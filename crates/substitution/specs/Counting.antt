-- How one loop counts the bytes of the types of a list whose parameters are replaced: at each turn the answer for the whole list is the answer for
-- what is left of it, after the bytes that are counted.
use Rattle.std.specs.Prelude.{◌≡◌, refl, Ok, Err, List, ℕ, ◌+◌, ◌-◌, ◌≤◌, ◌<◌, length, get_or}
use Rattle.std.proofs.Math.Path.{sym, ap}
use Rattle.std.proofs.Common.{◌∙◌, arith}
use Rattle.definitions.specs.SignatureToken.{SignatureTokens, Signature, encode_all}
use Rattle.definitions.specs.Places.{TypesAt}
use Rattle.file_format.specs.declared.StructHandleIndex.{StructHandleIndex}
use Rattle.signature_token.specs.declared.Wrapper.{Wrapper}
use Rattle.signature_token.specs.declared.Token.{Token}
use Rattle.signature_token.specs.declared.Token.TheVariants.{Leaf, Wrapped, Struct, StructInstantiation, TypeParameter}
use Rattle.status.specs.declared.StatusCode.TheVariants.{OUT_OF_TABLE}
use Rattle.signature_token.specs.Token.{TokenAt}
use Rattle.signature_token.specs.TokenLaws.{wrapped_at, instantiation_at, none_is}
use Rattle.signature_token.specs.Lists.{Left, left_done}
use Rattle.signature_token.specs.Ends.{type_room, leaf_end, struct_end}
use Rattle.signature_token.specs.Passing.{Passing}
use Rattle.signature_token.specs.declared.TypeRef.{TypeRef}
use Rattle.type_places.specs.Arguments.{Arguments, IsPlaced}
use Rattle.substitution.specs.Bytes.{part_long}
use Rattle.substitution.specs.Instantiate.{filled_all, filled_none, argument_is}
use Rattle.substitution.specs.Opening.{Opened, first, leaf_opened, struct_opened, argument_opened, argument_none, inner_opened, arguments_opened}
use Rattle.substitution.specs.Size.{size, size_from, Grown, SizesAt, ArgumentSize, size_after}

-- of the types ts at `at`, k types at p are left, and len bytes are counted
pub record Owing (ty : List ℕ) (at : ℕ) (ts : SignatureTokens) (subst : Signature) (p k len : ℕ) : Type 0 where
  pub left : Left ty at ts p k
  pub same : size_from 0 (at + length (encode_all ts)) (filled_all ts subst) ≡ size_from len (at + length (encode_all ts)) (filled_all left.others subst)

-- whatever types stand at `at`
pub record Counted (ty : List ℕ) (at n : ℕ) (args places : List ℕ) (p k len : ℕ) : Type 0 where
  pub small : len ≤ 65536
  pub is : (q : TypesAt ty at n) (a : Arguments args places) → Owing ty at q.types a.subst p k len

pub counted_start : {ty : List ℕ} {at n : ℕ} {args places : List ℕ} → Counted ty at n args places at n 0
counted_start = record {
  small = omega arith;
  is = λ q a. record { left = record { others = q.types; counted = q.counted; stands = q.stands; past = omega arith; ends = refl }; same = refl };
}

module _ {ty : List ℕ} {at n : ℕ} {args places : List ℕ} {p k len : ℕ} (c : Counted ty at n args places p k len) where
  -- the walk is one that passes the types
  abbrev pub passing : Arguments args places → Passing ty at n p k
  passing a q = (c.is q a).left

  pub counted_done : k ≡ 0 → SizesAt ty at n args places (Ok (size p len))
  unfolding size_from
  counted_done e = record {
    is = λ q a.
        let o = c.is q a in
        let none = none_is o.left.others (o.left.counted ∙ e) in
        sym (o.same ∙ rw (none, filled_none a.subst) (rw (← left_done e o.left) (let s = c.small in ap (λ (m : ℕ). Ok (size p m)) (omega arith))));
  }

-- ── a turn of the loop ──

-- the type at hand gives some bytes, which are counted
owing_on :
    {ty : List ℕ} {at : ℕ} {ts : SignatureTokens} {subst : Signature} {p k len m x y j : ℕ} {bs : List ℕ} (o : Owing ty at ts subst p k len) →
    Opened o.left subst bs y j → length bs ≡ m → Grown len m x → Owing ty at ts subst y j x
owing_on {at = at} {ts} {subst} {len = len} {bs = bs} o f long g =
    let end = at + length (encode_all ts) in
    record { left = f.left; same = o.same ∙ ap (size_from len end) f.is ∙ sym (size_after end bs (filled_all f.left.others subst) long g) }

module _ {ty : List ℕ} {at n : ℕ} {args places : List ℕ} {p k len : ℕ} (l : 0 < k) (c : Counted ty at n args places p k len) {r : Token} (w : TokenAt ty p r) where
  pub leaf_counted : {b x : ℕ} → r ≡ Leaf b → Grown len 1 x → Counted ty at n args places (p + 1) (k - 1) x
  leaf_counted e g = record {
    small = omega (arith, g.is);
    is = λ q a.
        let o = c.is q a in
        let t = first l o.left in
        owing_on o (leaf_opened l o.left a.subst w e) (part_long ty p 1 (omega (arith, leaf_end w e t, type_room t))) g;
  }

  pub struct_counted : {h : StructHandleIndex} {x : ℕ} → r ≡ Struct h → Grown len 3 x → Counted ty at n args places (p + 3) (k - 1) x
  struct_counted e g = record {
    small = omega (arith, g.is);
    is = λ q a.
        let o = c.is q a in
        let t = first l o.left in
        owing_on o (struct_opened l o.left a.subst w e) (part_long ty p 3 (omega (arith, struct_end w e t, type_room t))) g;
  }

  pub argument_counted : {i x : ℕ} {t : TypeRef} → r ≡ TypeParameter i → IsPlaced args places i t → ArgumentSize t.bytes.now t.at len x → Counted ty at n args places (p + 3) (k - 1) x
  argument_counted {i} {x} {t} e found size = record {
    small = omega (arith, size.is t.stands);
    is = λ q a.
        let o = c.is q a in
        let z = argument_is i found.within a.standing in
        let g : ArgumentSize args (get_or places i 0) len x = rw (found.bytes, found.place) at size in
        owing_on o (argument_opened l o.left a.subst w e z) refl (record { is = g.is (record { type = z.type; stands = z.stands }) });
  }

  pub argument_missing : {i : ℕ} → r ≡ TypeParameter i → length places ≤ i → SizesAt ty at n args places (Err OUT_OF_TABLE)
  unfolding size_from
  argument_missing e past = record {
    is = λ q a. let o = c.is q a in sym (rw (argument_none l o.left a.subst w e past a.standing) at o.same);
  }

  pub wrapped_counted : {v : Wrapper} {y x : ℕ} → r ≡ Wrapped v y → Grown len 1 x → Counted ty at n args places y k x
  wrapped_counted e g = record {
    small = omega (arith, g.is);
    is = λ q a.
        let o = c.is q a in
        let t = first l o.left in
        owing_on o (inner_opened l o.left a.subst w e) (part_long ty p 1 (omega (arith, (wrapped_at w t e).long, type_room t))) g;
  }

  pub instantiation_counted : {h : StructHandleIndex} {m y x : ℕ} → r ≡ StructInstantiation h m y → Grown len 4 x → Counted ty at n args places y (k - 1 + m) x
  instantiation_counted e g = record {
    small = omega (arith, g.is);
    is = λ q a.
        let o = c.is q a in
        let t = first l o.left in
        owing_on o (arguments_opened l o.left a.subst w e) (part_long ty p 4 (omega (arith, (instantiation_at w t e).long, type_room t))) g;
  }
