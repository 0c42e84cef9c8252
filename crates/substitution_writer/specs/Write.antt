-- What the writer of a type leaves whose parameters are replaced: its bytes, from a place on, and all else as it was.
use Rattle.std.specs.Prelude.{◌≡◌, refl, Option, Some, List, ◌++◌, ℕ, ◌+◌, ◌-◌, ◌≤◌, ◌<◌, length, take, drop, set, get_or}
use Rattle.std.proofs.Common.{sym, ap, ◌∙◌, arith, length-append}
use Rattle.std.proofs.lemmas.List.Edits.{sets}
use Rattle.std.proofs.Math.Seq.{length-sets}
use Rattle.definitions.specs.SignatureToken.{encode, encode_all}
use Rattle.definitions.specs.Places.{TypeAt}
use Rattle.file_format.specs.declared.StructHandleIndex.{StructHandleIndex}
use Rattle.signature_token.specs.declared.Wrapper.{Wrapper}
use Rattle.signature_token.specs.declared.Token.{Token}
use Rattle.signature_token.specs.declared.Token.TheVariants.{Leaf, Wrapped, Struct, StructInstantiation, TypeParameter}
use Rattle.signature_token.specs.Encoded.{Encoded}
use Rattle.signature_token.specs.Token.{TokenAt, at_some}
use Rattle.signature_token.specs.TokenLaws.{leaf_byte}
use Rattle.signature_token.specs.Ends.{leaf_end, struct_end, parameter_end}
use Rattle.signature_token.specs.declared.TypeRef.{TypeRef}
use Rattle.type_places.specs.Arguments.{PlacedAt}
use Rattle.substitution_writer.specs.declared.Reached.{Reached}
use Rattle.substitution.specs.Bytes.{over, sets_over, sets_append, Put, part_put, byte_put}
use Rattle.substitution.specs.Filling.{Filling, Fillings, Room, Rooms, Whole, Below, leaf_whole, struct_whole, wrapped_below, instantiation_below, parameter_replaced, Gone, gone_start, gone_next, gone_end, gone_bytes, turn_filling, turn_room}

-- ── the words ──

-- bytes of a type that ends at `next` were written into d at w
pub record Wrote (w : ℕ) (bytes : List ℕ) (next : ℕ) (d d' : List ℕ) (r : Reached) : Type 0 where
  pub ends : r.next ≡ next
  pub reached : r.end ≡ w + length bytes
  pub now : d' ≡ sets d w bytes

pub record WroteFrom (ty : List ℕ) (at : ℕ) (args places : List ℕ) (w : ℕ) (d d' : List ℕ) (r : Reached) : Type 0 where
  pub is : (f : Filling ty at args places) → Wrote w f.bytes (at + length (encode f.from.type)) d d' r

pub record WroteAllFrom (ty : List ℕ) (at n : ℕ) (args places : List ℕ) (w : ℕ) (d d' : List ℕ) (r : Reached) : Type 0 where
  pub is : (f : Fillings ty at n args places) → Wrote w f.bytes (at + length (encode_all f.from.types)) d d' r

-- d became d', which begins with the bytes of the type at `at` of ty, with the arguments in its parameters' places; r is where the type ends and
-- where they do
pub record WroteAt (ty : List ℕ) (at : ℕ) (args places : List ℕ) (d d' : List ℕ) (r : Reached) : Type 0 where
  pub is : (m : Room ty at args places 0 (length d)) → d' ≡ over m.filling.bytes d
  pub ends : (f : Filling ty at args places) → r.next ≡ at + length (encode f.from.type)
  pub reached : (f : Filling ty at args places) → r.end ≡ length f.bytes

-- the argument at `from` was written into d at w, and ends at e
pub record ArgumentWritten (args : List ℕ) (from w : ℕ) (d d' : List ℕ) (e : ℕ) : Type 0 where
  pub reached : (p : TypeAt args from) → e ≡ w + length (encode p.type)
  pub now : (p : TypeAt args from) → d' ≡ sets d w (encode p.type)

-- ── types ──

abbrev at_end : ℕ → ℕ → Reached
at_end next e = record { next = next; end = e }

wrote_whole :
    {s : List ℕ} {at k w : ℕ} {bytes d d' : List ℕ} {e next end : ℕ} → Whole s at k bytes → Put d w (take k (drop at s)) d' e → next ≡ end →
    Wrote w bytes end d d' (at_end next e)
wrote_whole h c n = record { ends = n; reached = rw h.is c.reached; now = rw h.is c.now }

wrote_below :
    {s : List ℕ} {at k w : ℕ} {bytes below d d₁ d₂ : List ℕ} {e next end : ℕ} {r : Reached} → Below s at k bytes below →
    Put d w (take k (drop at s)) d₁ e → Wrote e below next d₁ d₂ r → next ≡ end → Wrote w bytes end d d₂ r
wrote_below {s} {at} {k} {w} {bytes} {below} {d} h c v n = record {
  ends = v.ends ∙ n;
  reached = omega (arith, v.reached, c.reached, ap length h.is, length-append (take k (drop at s)) below);
  now = v.now ∙ rw (c.now, c.reached, sets_append d w (take k (drop at s)) below, h.is);
}

module _ {ty : List ℕ} {at : ℕ} {r : Token} (t : TokenAt ty at r) {args places : List ℕ} {w : ℕ} {d : List ℕ} where
  -- the command is stored
  pub leaf_wrote : {b : ℕ} → r ≡ Leaf b → TypeAt ty at → WroteFrom ty at args places w d (set d w b) (at_end (at + 1) (w + 1))
  leaf_wrote k p =
      let c = rw (leaf_byte t p k) at (byte_put d w ty at (at_some p)) in
      record { is = λ f. wrote_whole (leaf_whole t f k) c (leaf_end t k f.from) }

  pub struct_wrote :
      {h : StructHandleIndex} {d₁ : List ℕ} {e : ℕ} → r ≡ Struct h → Put d w (take (at + 3 - at) (drop at ty)) d₁ e →
      WroteFrom ty at args places w d d₁ (at_end (at + 3) e)
  struct_wrote k c = record { is = λ f. wrote_whole (struct_whole t f k) (part_put ty at 3 c) (struct_end t k f.from) }

  pub wrapped_wrote :
      {v : Wrapper} {x : ℕ} {d₂ : List ℕ} {z : Reached} → r ≡ Wrapped v x → TypeAt ty at →
      WroteFrom ty x args places (w + 1) (set d w (get_or ty at 0)) d₂ z → WroteFrom ty at args places w d d₂ z
  wrapped_wrote k p v = record { is = λ f. let i = wrapped_below t f k in wrote_below i.below (byte_put d w ty at (at_some p)) (v.is i.inner) i.ends }

  pub instantiation_wrote :
      {h : StructHandleIndex} {n x : ℕ} {d₁ d₂ : List ℕ} {e : ℕ} {z : Reached} → r ≡ StructInstantiation h n x → Put d w (take (at + 4 - at) (drop at ty)) d₁ e →
      WroteAllFrom ty x n args places e d₁ d₂ z → WroteFrom ty at args places w d d₂ z
  instantiation_wrote k c v = record { is = λ f. let i = instantiation_below t f k in wrote_below i.below (part_put ty at 4 c) (v.is i.inner) i.ends }

  pub parameter_wrote :
      {j : ℕ} {o : Option TypeRef} {a : TypeRef} {d₁ : List ℕ} {e : ℕ} → r ≡ TypeParameter j → PlacedAt args places j o → o ≡ Some a → ArgumentWritten a.bytes.now a.at w d d₁ e →
      WroteFrom ty at args places w d d₁ (at_end (at + 3) e)
  parameter_wrote {j} {a = a} {d₁ = d₁} {e = e} k found some written = record {
    is = λ f.
        let placed = found.some a some in
        let c : ArgumentWritten args (get_or places j 0) w d d₁ e = rw (placed.bytes, placed.place) at written in
        let i = parameter_replaced t f k in
        let p : TypeAt args (get_or places j 0) = record { type = i.type; stands = i.stands } in
        record { ends = parameter_end t k f.from; reached = omega (arith, c.reached p, ap length i.is); now = c.now p ∙ ap (sets d w) (sym i.is) };
  }

-- ── arguments ──

pub argument_wrote :
    {args : List ℕ} {from : ℕ} {bs : List ℕ} {w : ℕ} {d d' : List ℕ} {e : ℕ} → Encoded args from bs → Put d w bs d' e → ArgumentWritten args from w d d' e
argument_wrote is c = record { reached = λ p. rw (is p) at c.reached; now = λ p. rw (is p) at c.now }

-- ── lists ──

-- what the bytes of the first types have done
pub record Stored (w : ℕ) (d d' : List ℕ) (e : ℕ) (done : List ℕ) : Type 0 where
  pub reached : e ≡ w + length done
  pub now : d' ≡ sets d w done

stored_more :
    {w : ℕ} {d d' d'' : List ℕ} {e e' : ℕ} {done : List ℕ} (bs : List ℕ) → Stored w d d' e done → e' ≡ e + length bs → d'' ≡ sets d' e bs →
    Stored w d d'' e' (done ++ bs)
stored_more {w} {d} {d'} {d''} {e} {e'} {done} bs s k n = record {
  reached = omega (arith, s.reached, length-append done bs);
  now = n ∙ rw (s.now, s.reached, sets_append d w done bs);
}

-- of the n types at `at` the first i are written into d from w to e, and the others stand at p
pub record Writing (ty : List ℕ) (at n : ℕ) (args places : List ℕ) (w : ℕ) (d : List ℕ) (p : ℕ) (d' : List ℕ) (e i : ℕ) : Type 0 where
  pub is : (f : Fillings ty at n args places) → Gone ty at n f.from.types f.list.subst p i (Stored w d d' e)

module _ {ty : List ℕ} {at n : ℕ} {args places : List ℕ} {w : ℕ} {d : List ℕ} where
  pub writing_start : Writing ty at n args places w d at d w 0
  writing_start = record { is = λ f. gone_start f.from.counted f.from.stands (record { reached = omega arith; now = refl }) }

  module _ {p : ℕ} {d' : List ℕ} {e i : ℕ} (g : Writing ty at n args places w d p d' e i) where
    pub writing_next : i < n → {d'' : List ℕ} {r : Reached} → WroteFrom ty p args places e d' d'' r → Writing ty at n args places w d r.next d'' r.end (i + 1)
    writing_next l {d''} {r} v = record {
      is = λ f.
          let h = g.is f in
          let one = turn_filling f h l in
          let x = v.is one in
          gone_next h l one.is x.ends (stored_more one.bytes h.state x.reached x.now);
    }

    pub writing_done : n ≤ i → WroteAllFrom ty at n args places w d d' (at_end p e)
    writing_done l = record {
      is = λ f.
          let h = g.is f in
          let z = gone_bytes f h l in
          record { ends = gone_end h l; reached = rw z at h.state.reached; now = rw z at h.state.now };
    }

    -- what a turn needs
    pub writing_room : {room : ℕ} → i < n → Rooms ty at n args places w room → Room ty p args places e room
    writing_room l m = let h = g.is m.filling in turn_room m h l h.state.reached

    pub writing_onward : Fillings ty at n args places → at ≤ p
    writing_onward f = (g.is f).rest.past

    pub writing_long : Fillings ty at n args places → length d' ≡ length d
    writing_long f = let h = g.is f in ap length h.state.now ∙ length-sets d w h.done

-- at the front of a slice
pub wrote_at : {ty : List ℕ} {at : ℕ} {args places d d' : List ℕ} {r : Reached} → WroteFrom ty at args places 0 d d' r → WroteAt ty at args places d d' r
wrote_at {ty} {at} {args} {places} {d} v = record {
  is = λ m. (v.is m.filling).now ∙ sets_over d m.filling.bytes (omega (arith, m.fits));
  ends = λ f. (v.is f).ends;
  reached = λ f. omega (arith, (v.is f).reached);
}

-- a leaf at the front of a slice: its command is stored there
pub leaf_at_front :
    {ty : List ℕ} {at : ℕ} {r : Token} {args places d : List ℕ} {b : ℕ} → TokenAt ty at r → TypeAt ty at → r ≡ Leaf b →
    WroteAt ty at args places d (set d 0 b) (at_end (at + 1) 1)
leaf_at_front t p e = wrote_at (leaf_wrote t e p)

-- `write_types`
pub ruleset writing = (writing_start, writing_next, writing_done)
