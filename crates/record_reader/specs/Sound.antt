-- What is read stands there: a type that was read at a position has its bytes there, ends where they end, and nests no deeper than the
-- levels allowed; and so a list of types. (That what stands there is read is a theorem, Bytes.)
use Rattle.std.proofs.Math.Path.{◌≡◌, ap}
use Rattle.std.specs.Prelude.{refl, List, [], ◌∷◌, ◌++◌, drop}
use Rattle.std.proofs.Common.{sym, ap₂, ◌∙◌, append_assoc, add-zero, zero-add, add-one, length-append, drop-cons, drop-drop}
use Prim.Native.Nat.{ℕ, zero, suc, ◌+◌, ◌*◌, ◌/◌, ◌%◌, ◌≤◌, ◌<◌}
use native.Mathlib.Omega.{arith}
use Rattle.std.proofs.Math.ListN.{length, get_or}
use Rattle.std.proofs.Math.Seq.{drop-append_seam}
use Rattle.status.specs.declared.StatusCode.TheVariants.{DEPTH}
use Rattle.definitions.specs.SignatureToken.{SignatureToken, Signature, Bool', U8, U64, U128, Address, Signer, Vector, Struct, StructInstantiation, Reference, MutableReference, TypeParameter, arguments, count, encode, encode_all, depth, depth_all}
use Rattle.definitions.specs.CompiledUnit.{Head}
use Rattle.definitions.specs.Reading.{Read, read, stop, Reader, next, ◌>>=◌, ◌>>◌, give, fail, here, byte, u16, many}
use Rattle.definitions.specs.Commands.{TypeCommand, leaf, over, instantiation, commands_of, type_commands, type_command}
use Rattle.definitions.specs.Reader.{rest_of_type, type_within}
use Rattle.definitions.specs.Places.{At, TypesAt}
use Rattle.record_reader.specs.Apart.{parts, made, ByteRead, byte_read, U16Read, u16_read}
use Rattle.record_reader.specs.BodyLaws.{same_types}

-- ── the statements ──

-- the type t stands at `at`, ends at e, and nests so many levels at most
pub record Stands (s : List ℕ) (at levels : ℕ) (t : SignatureToken) (e : ℕ) : Type 0 where
  pub stands : At s at (encode t)
  pub end : e ≡ at + length (encode t)
  pub nests : depth t ≤ levels

-- the n types ts stand at `at` one after the other, end at e, and each nests so many levels at most
pub record AllStand (s : List ℕ) (at levels n : ℕ) (ts : Signature) (e : ℕ) : Type 0 where
  pub number : count (arguments ts) ≡ n
  pub stand : At s at (encode_all (arguments ts))
  pub end : e ≡ at + length (encode_all (arguments ts))
  pub nest : depth_all (arguments ts) ≤ levels

-- what is read by `type` is a type that stands there
pub record TypeSound (s : List ℕ) (levels : ℕ) (type : Reader SignatureToken) : Type 0 where
  pub sound : (at e : ℕ) (t : SignatureToken) → type s at ≡ read t e → Stands s at levels t e

-- ── places put together ──

module _ {s : List ℕ} where
  at_none : (at : ℕ) → At s at []
  at_none at = record { rest = drop at s; here = refl }

  at_cons : {bs : List ℕ} {at : ℕ} → at < length s → At s (at + 1) bs → At s at (get_or s at 0 ∷ bs)
  at_cons {bs} {at} h r =
      record { rest = r.rest; here = drop-cons s at 0 h ∙ ap (λ (l : List ℕ). get_or s at 0 ∷ l) (rw (add-one at) at r.here) }

  moved : {bs : List ℕ} {x y : ℕ} → x ≡ y → At s x bs → At s y bs
  moved e h = rw e at h

  at_join : {at : ℕ} (bs cs : List ℕ) → At s at bs → At s (at + length bs) cs → At s at (bs ++ cs)
  at_join {at} bs cs h r = record {
    rest = r.rest;
    here = h.here
        ∙ ap (λ (l : List ℕ). bs ++ l) (sym (drop-append_seam bs h.rest) ∙ ap (drop (length bs)) (sym h.here) ∙ drop-drop (length bs) at s ∙ r.here)
        ∙ sym (append_assoc bs cs r.rest);
  }

-- ── the bytes of a u16 ──

low : (a b : ℕ) → a < 256 → (a + 256 * b) % 256 ≡ a
low a b h = omega arith

high : (a b : ℕ) → a < 256 → (a + 256 * b) / 256 ≡ b
high a b h = omega arith

module _ (s : List ℕ) (bytes : (i : ℕ) → get_or s i 0 < 256) where
  -- a u16 that was read stands before what follows it
  index_stands : {bs : List ℕ} {at i e : ℕ} → U16Read s at i e → At s e bs → At s at (i % 256 ∷ i / 256 ∷ bs)
  index_stands {bs} {at} {i} {e} h r =
      let lo = get_or s at 0 in
      let hi = get_or s (at + 1) 0 in
      rw (h.is, low lo hi (bytes at), high lo hi (bytes at))
      (at_cons (omega (arith, h.within)) (at_cons h.within (moved (h.next_at ∙ omega arith) r)))

  -- ── a list of types ──

  pub all_sound :
      (levels : ℕ) (type : Reader SignatureToken) → TypeSound s levels type →
      (n at e : ℕ) (ts : Signature) → many n type s at ≡ read ts e → AllStand s at levels n ts e
  unfolding many arguments count encode_all depth_all
  all_sound levels type h zero at e ts q =
      let m = made s q in
      rw (← m.0) record { number = refl; stand = at_none at; end = omega (arith, m.1); nest = omega arith }
  all_sound levels type h (suc n) at e ts q =
      let p = parts type (λ t. many n type >>= λ rest. give (t ∷ rest)) s at q in
      let r = parts (many n type) (λ rest. give (p.value ∷ rest)) s p.middle p.second in
      let one = h.sound at p.middle p.value p.first in
      let more = all_sound levels type h n p.middle r.middle r.value r.first in
      let m = made s r.second in
      let us = encode_all (arguments r.value) in
      rw (← m.0) record {
        number = ap suc more.number;
        stand = at_join (encode p.value) us one.stands (moved one.end more.stand);
        end = rw (length-append (encode p.value) us) (omega (arith, m.1, one.end, more.end));
        nest = omega (arith, one.nests, more.nest);
      }

-- ── the token that a command opens ──

data Opens (b : ℕ) : TypeCommand → Type 0 where
  a_leaf : (t : SignatureToken) → encode t ≡ b ∷ [] → depth t ≡ 1 → Opens b (leaf t)
  a_type : (f : SignatureToken → SignatureToken) → ((t : SignatureToken) → (encode (f t) ≡ b ∷ encode t) × (depth (f t) ≡ suc (depth t))) → Opens b (over f)
  an_index : (f : ℕ → SignatureToken) → ((i : ℕ) → (encode (f i) ≡ b ∷ i % 256 ∷ i / 256 ∷ []) × (depth (f i) ≡ 1)) → Opens b (TypeCommand.index f)
  a_list : b ≡ 0x09 → Opens b instantiation
  nothing : Opens b TypeCommand.unknown

infixr 50 ◌⊳◌
-- each command of a list opens what stands at its place, counted from i
data AllOpen : ℕ → List TypeCommand → Type 0 where
  end : {i : ℕ} → AllOpen i []
  ◌⊳◌ : {i : ℕ} {x : TypeCommand} {xs : List TypeCommand} → Opens i x → AllOpen (suc i) xs → AllOpen i (x ∷ xs)

opens_from : (l : List TypeCommand) (i : ℕ) → AllOpen i l → (b : ℕ) → Opens (i + b) (get_or l b TypeCommand.unknown)
opens_from [] i h b = nothing
opens_from (x ∷ xs) i (o ⊳ h) zero = rw (add-zero i) o
opens_from (x ∷ xs) i (o ⊳ h) (suc b) = let e : i + suc b ≡ suc i + b = omega arith in rw e (opens_from xs (suc i) h b)

all_open : AllOpen 0 type_commands
unfolding encode depth
all_open =
    nothing ⊳ a_leaf Bool' refl refl ⊳ a_leaf U8 refl refl ⊳ a_leaf U64 refl refl ⊳ a_leaf U128 refl refl ⊳ a_leaf Address refl refl
    ⊳ a_leaf Signer refl refl ⊳ a_type Vector (λ t. (refl, refl)) ⊳ an_index Struct (λ i. (refl, refl)) ⊳ a_list refl
    ⊳ a_type Reference (λ t. (refl, refl)) ⊳ a_type MutableReference (λ t. (refl, refl)) ⊳ an_index TypeParameter (λ i. (refl, refl)) ⊳ end

opens : (b : ℕ) → Opens b (get_or type_commands b TypeCommand.unknown)
opens b = rw (zero-add b) at (opens_from type_commands 0 all_open b)

-- ── a type ──

carried : {s : List ℕ} {at levels d e : ℕ} {t u : SignatureToken} → (t ≡ u) × (d ≡ e) → Stands s at levels t d → Stands s at levels u e
carried h k = rw (← h.0, ← h.1) k

module _ (s : List ℕ) (bytes : (i : ℕ) → get_or s i 0 < 256) (levels : ℕ) (type : Reader SignatureToken) (h : TypeSound s levels type) where
  -- the parts of an instantiated struct: its command, its handle, the count, and the types
  instantiated :
      (at i : ℕ) (ts : Signature) {n p c e : ℕ} → at < length s → get_or s at 0 ≡ 0x09 → U16Read s (at + 1) i p → ByteRead s p n c →
      AllStand s c levels n ts e → Stands s at (suc levels) (StructInstantiation i (arguments ts)) e
  unfolding encode depth
  instantiated at i ts {n} {p} {c} {e} w o index number all =
      let m : count (arguments ts) ≡ get_or s p 0 = all.number ∙ number.is in
      record {
        stands = rw (← o, m) (at_cons w (index_stands s bytes index (at_cons number.within (moved number.next_at all.stand))));
        end = omega (arith, index.next_at, number.next_at, all.end);
        nests = omega (arith, all.nest);
      }

  -- the command stood at `at`
  rest_sound :
      (at e : ℕ) (t : SignatureToken) (command : TypeCommand) → at < length s → Opens (get_or s at 0) command →
      rest_of_type type at command s (at + 1) ≡ read t e → Stands s at (suc levels) t e
  unfolding rest_of_type encode depth fail
  rest_sound at e t (leaf u) w (a_leaf _ o d) q =
      carried (made s q) record { stands = rw o (at_cons w (at_none (at + 1))); end = omega (arith, ap length o); nests = omega arith }
  rest_sound at e t (over f) w (a_type _ o) q =
      let p = parts type (λ u. give (f u)) s (at + 1) q in
      let one = h.sound (at + 1) p.middle p.value p.first in
      let o' = o p.value in
      carried (made s p.second) record {
        stands = rw o'.0 (at_cons w one.stands);
        end = omega (arith, one.end, ap length o'.0);
        nests = omega (arith, one.nests, o'.1);
      }
  rest_sound at e t (TypeCommand.index f) w (an_index _ o) q =
      let p = parts u16 (λ i. give (f i)) s (at + 1) q in
      let index = u16_read s (at + 1) p.first in
      let o' = o p.value in
      carried (made s p.second) record {
        stands = rw o'.0 (at_cons w (index_stands s bytes index (at_none p.middle)));
        end = omega (arith, index.next_at, ap length o'.0);
        nests = omega (arith, o'.1);
      }
  rest_sound at e t instantiation w (a_list o) q =
      let p = parts u16 (λ i. byte >>= λ n. many n type >>= λ ts. give (StructInstantiation i (arguments ts))) s (at + 1) q in
      let c = parts byte (λ n. many n type >>= λ ts. give (StructInstantiation p.value (arguments ts))) s p.middle p.second in
      let l = parts (many c.value type) (λ ts. give (StructInstantiation p.value (arguments ts))) s c.middle c.second in
      let index = u16_read s (at + 1) p.first in
      let number = byte_read s p.middle c.first in
      let all = all_sound s bytes levels type h c.value c.middle l.middle l.value l.first in
      carried (made s l.second) (instantiated at p.value l.value w o index number all)
  rest_sound at e t TypeCommand.unknown w o q = let z : ◌≡◌ {A = ℕ} 0 1 = cc in absurd (omega arith)

module _ (head : Head) (s : List ℕ) (bytes : (i : ℕ) → get_or s i 0 < 256) where
  -- A TYPE THAT IS READ STANDS THERE
  pub type_sound : (levels : ℕ) → TypeSound s levels (type_within (commands_of head) levels)
  unfolding type_within ◌>>=◌ ◌>>◌ next here fail
  type_sound zero = record { sound = λ at e t q. absurd (never at e t (byte s at) q) }
    where
      never : (at e : ℕ) (t : SignatureToken) (r : Read ℕ) → next {B = SignatureToken} r (λ _ d. stop DEPTH at) ≡ read t e → ⊥
      never at e t (read b d) q = let z : ◌≡◌ {A = ℕ} 0 1 = cc in omega arith
      never at e t (stop w o) q = let z : ◌≡◌ {A = ℕ} 0 1 = cc in omega arith
  type_sound (suc levels) = record { sound = λ at e t q. go (type_sound levels) at e t q }
    where
      go :
          TypeSound s levels (type_within (commands_of head) levels) → (at e : ℕ) (t : SignatureToken) →
          type_within (commands_of head) (suc levels) s at ≡ read t e → Stands s at (suc levels) t e
      go ih at e t q =
          let p = parts byte (λ c. rest_of_type (type_within (commands_of head) levels) at (type_command (commands_of head) c)) s at q in
          let b = byte_read s at p.first in
          rest_sound s bytes levels (type_within (commands_of head) levels) ih at e t (type_command (commands_of head) (get_or s at 0)) b.within
          (rw (same_types head (get_or s at 0)) (opens (get_or s at 0)))
          (ap₂ (λ (c x : ℕ). rest_of_type (type_within (commands_of head) levels) at (type_command (commands_of head) c) s x) (sym b.is) (sym b.next_at) ∙ p.second)

  -- and so n types one after the other
  pub types_sound :
      (levels n at e : ℕ) (ts : Signature) → many n (type_within (commands_of head) levels) s at ≡ read ts e → AllStand s at levels n ts e
  types_sound levels = all_sound s bytes levels (type_within (commands_of head) levels) (type_sound levels)

-- in the words of contracts
module _ {s : List ℕ} {at levels e : ℕ} where
  unfoldable pub types_at : {n : ℕ} {ts : Signature} → AllStand s at levels n ts e → TypesAt s at n
  types_at {n} {ts} h = record { types = arguments ts; counted = h.number; stands = h.stand }
