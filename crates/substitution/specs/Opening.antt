-- What the type at hand gives of the bytes of a list of types whose parameters are replaced: first its own, or those of the argument that takes
-- its place, and then the bytes of what is left. The laws of the loops that go through types so: the size and the comparison.
use Rattle.std.specs.Prelude.{◌≡◌, refl, List, ℕ, ◌+◌, ◌-◌, ◌≤◌, ◌<◌, length, take, drop}
use Rattle.std.proofs.Common.{sym, ap, ◌∙◌}
use Rattle.status.specs.declared.StatusCode.TheVariants.{OUT_OF_TABLE}
use Rattle.definitions.specs.Result.{Result, ok, err, ◌>>?◌}
use Rattle.definitions.specs.SignatureToken.{SignatureTokens, Signature, encode}
use Rattle.definitions.specs.Places.{TypeAt, EndOfType, Standing}
use Rattle.file_format.specs.declared.StructHandleIndex.{StructHandleIndex}
use Rattle.signature_token.specs.declared.Wrapper.{Wrapper}
use Rattle.signature_token.specs.declared.Token.{Token}
use Rattle.signature_token.specs.declared.Token.TheVariants.{Leaf, Wrapped, Struct, StructInstantiation, TypeParameter}
use Rattle.signature_token.specs.Token.{TokenAt}
use Rattle.signature_token.specs.TokenLaws.{wrapped_at, instantiation_at}
use Rattle.signature_token.specs.Lists.{Left, first_left, left_after}
use Rattle.signature_token.specs.Ends.{leaf_end, struct_end, parameter_end}
use Rattle.signature_token.specs.Passing.{wrapped_left, instantiation_left}
use Rattle.substitution.specs.Instantiate.{filled, filled_all, after, filled_more, filled_opened, filled_before}
use Rattle.substitution.specs.Instantiate.{leaf_filled, struct_filled, wrapped_filled, instantiation_filled, parameter_filled, IsArgument, argument_past}

-- the types that are left give bs, and then what j types at x give, which are left after that
pub record Opened {ty : List ℕ} {at : ℕ} {ts : SignatureTokens} {p k : ℕ} (o : Left ty at ts p k) (subst : Signature) (bs : List ℕ) (x j : ℕ) : Type 0 where
  pub left : Left ty at ts x j
  pub is : filled_all o.others subst ≡ after bs (filled_all left.others subst)

module _ {ty : List ℕ} {at : ℕ} {ts : SignatureTokens} {p k : ℕ} (l : 0 < k) (o : Left ty at ts p k) where
  -- the first of what is left
  abbrev pub first : TypeAt ty p
  first = record { type = (first_left l o).first; stands = (first_left l o).stands }

  module _ (subst : Signature) where
    apart : filled_all o.others subst ≡ (filled first.type subst >>? λ bs. after bs (filled_all (first_left l o).others subst))
    apart = let f = first_left l o in ap (λ (us : SignatureTokens). filled_all us subst) f.is ∙ filled_more f.first f.others subst

    -- it gives these bytes, and is passed
    passed_whole : {e : ℕ} {bs : List ℕ} → EndOfType ty p e → filled first.type subst ≡ ok bs → Opened o subst bs e (k - 1)
    unfolding ◌>>?◌
    passed_whole ends h = record { left = left_after l o ends refl; is = rw h at apart }

    -- it gives bs, and what stands inside it is left in its place
    opened_inside :
        {bs : List ℕ} {x j : ℕ} (inside : Result (List ℕ)) → filled first.type subst ≡ after bs inside → (left : Left ty at ts x j) →
        filled_all left.others subst ≡ (inside >>? λ cs. after cs (filled_all (first_left l o).others subst)) → Opened o subst bs x j
    opened_inside {bs} inside h left e = record { left = left; is = apart ∙ filled_opened bs inside _ h ∙ ap (after bs) (sym e) }

    module _ {r : Token} (w : TokenAt ty p r) where
      pub leaf_opened : {b : ℕ} → r ≡ Leaf b → Opened o subst (take 1 (drop p ty)) (p + 1) (k - 1)
      leaf_opened e = passed_whole (leaf_end w e) (leaf_filled w first subst e)

      pub struct_opened : {h : StructHandleIndex} → r ≡ Struct h → Opened o subst (take 3 (drop p ty)) (p + 3) (k - 1)
      struct_opened e = passed_whole (struct_end w e) (struct_filled w first subst e)

      -- the argument's bytes
      pub argument_opened : {args places : List ℕ} {i : ℕ} → r ≡ TypeParameter i → (z : IsArgument args places subst i) → Opened o subst (encode z.type) (p + 3) (k - 1)
      argument_opened e z = passed_whole (parameter_end w e) (parameter_filled w first subst e ∙ z.is)

      -- no argument takes the parameter's place
      pub argument_none : {args places : List ℕ} {i : ℕ} → r ≡ TypeParameter i → length places ≤ i → Standing args places subst → filled_all o.others subst ≡ err OUT_OF_TABLE
      unfolding ◌>>?◌
      argument_none {i = i} e past standing = rw (parameter_filled w first subst e ∙ argument_past i past standing) at apart

      -- the inner type is left in the place of the one around it
      pub inner_opened : {v : Wrapper} {y : ℕ} → r ≡ Wrapped v y → Opened o subst (take 1 (drop p ty)) y k
      unfolding wrapped_left
      inner_opened e =
          let i = wrapped_at w first e in
          opened_inside (filled i.inner subst) (wrapped_filled w first subst e) (wrapped_left l o w e) (filled_more i.inner (first_left l o).others subst)

      -- the arguments are left in the place of the struct
      pub arguments_opened : {h : StructHandleIndex} {m y : ℕ} → r ≡ StructInstantiation h m y → Opened o subst (take 4 (drop p ty)) y (k - 1 + m)
      unfolding instantiation_left
      arguments_opened e =
          let i = instantiation_at w first e in
          opened_inside (filled_all i.types subst) (instantiation_filled w first subst e) (instantiation_left l o w e)
          (filled_before i.types (first_left l o).others subst)
