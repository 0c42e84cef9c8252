-- A type's bytes are read back as that type, whatever follows them. So two types are equal exactly when their bytes are, and bytes begin
-- with one type at most.
use Rattle.std.specs.Prelude.{◌≡◌, List, [], ◌∷◌, ◌++◌, ◌↔◌, drop}
use Rattle.std.proofs.Math.Path.{refl}
use Rattle.std.proofs.Common.{sym, ap, ◌∙◌, lt-ltb}
use Prim.Native.Nat.{ℕ, zero, suc, ◌+◌, ◌*◌, ◌/◌, ◌%◌, ◌≤◌, max}
use native.Mathlib.Omega.{arith}
use Rattle.std.proofs.Math.ListN.{length, get_or, length-append}
use Rattle.std.proofs.Math.Seq.{drop-append_seam}
use Rattle.definitions.specs.SignatureToken.{SignatureToken, SignatureTokens, Signature, Bool', U8, U64, U128, Address, Signer, Vector, Struct, StructInstantiation, Reference, MutableReference, TypeParameter, []ᵗ, ◌∷ᵗ◌, arguments, count, encode, encode_all, depth, depth_all}
use Rattle.definitions.specs.CompiledUnit.{Head, Module, Script}
use Rattle.definitions.specs.Reading.{read, next, ◌>>=◌, give, here, byte, u16, many}
use Rattle.definitions.specs.Commands.{TypeCommand, leaf, over, commands_of, type_commands, type_command}
use Rattle.definitions.specs.Reader.{rest_of_type, type_within}
use Rattle.definitions.specs.Places.{At}
use Rattle.theorems.specs.AtLaws.{at_byte, at_less, at_next, at_back, at_front, at_start}

-- ── the statements ──

-- a type that stands at a position is read there, under either head, within as many levels as it nests
pub ReadsBack : SignatureToken → Type 0
ReadsBack t =
    (head : Head) (levels : ℕ) (s : List ℕ) (at : ℕ) → At s at (encode t) → depth t ≤ levels →
    type_within (commands_of head) levels s at ≡ read t (at + length (encode t))

-- an argument list as a signature
unfoldable pub list_of : SignatureTokens → Signature
list_of []ᵗ = []
list_of (t ∷ᵗ ts) = t ∷ list_of ts

pub ReadBackAll : SignatureTokens → Type 0
ReadBackAll ts =
    (head : Head) (levels : ℕ) (s : List ℕ) (at : ℕ) → At s at (encode_all ts) → depth_all ts ≤ levels →
    many (count ts) (type_within (commands_of head) levels) s at ≡ read (list_of ts) (at + length (encode_all ts))

-- ── reading what stands there ──

pub arguments_list_of : (ts : SignatureTokens) → arguments (list_of ts) ≡ ts
unfolding arguments list_of
arguments_list_of []ᵗ = refl
arguments_list_of (t ∷ᵗ ts) = ap (λ (us : SignatureTokens). t ∷ᵗ us) (arguments_list_of ts)

pub list_of_arguments : (ts : Signature) → list_of (arguments ts) ≡ ts
unfolding arguments list_of
list_of_arguments [] = refl
list_of_arguments (t ∷ ts) = ap (λ (us : Signature). t ∷ us) (list_of_arguments ts)

-- a u16's two bytes make it up
pub le16_back : (h : ℕ) → h % 256 + 256 * (h / 256) ≡ h
le16_back h = omega arith

module _ {s : List ℕ} {at : ℕ} where
  pub byte_at : {b : ℕ} {bs : List ℕ} → At s at (b ∷ bs) → byte s at ≡ read b (at + 1)
  unfolding byte
  byte_at {b} {bs} h = rw (lt-ltb at (length s) (at_less h), byte) (ap (λ (c : ℕ). read c (at + 1)) (at_byte h))

module _ {s : List ℕ} {at : ℕ} where
  pub u16_at : {h : ℕ} {bs : List ℕ} → At s at (h % 256 ∷ h / 256 ∷ bs) → u16 s at ≡ read h (at + 1 + 1)
  unfolding u16 ◌>>=◌ next give
  u16_at {h} {bs} k = rw (byte_at k, byte_at (at_next k), le16_back h)

module _ (head : Head) where
  -- both heads know the same types
  type_command_is : (b : ℕ) → type_command (commands_of head) b ≡ get_or type_commands b TypeCommand.unknown
  unfolding type_command
  type_command_is b = go head
    where
      go : (head' : Head) → get_or (commands_of head').types b TypeCommand.unknown ≡ get_or type_commands b TypeCommand.unknown
      go Module = refl
      go Script = refl

  module _ {s : List ℕ} {at b : ℕ} {bs : List ℕ} (h : At s at (b ∷ bs)) where
    first_byte :
        (levels : ℕ) → type_within (commands_of head) (suc levels) s at
        ≡ rest_of_type (type_within (commands_of head) levels) at (get_or type_commands b TypeCommand.unknown) s (at + 1)
    unfolding type_within ◌>>=◌ next here
    first_byte levels = rw (byte_at h, type_command_is b)

    -- a type in a type
    reads_over :
        (f : SignatureToken → SignatureToken) (t : SignatureToken) (levels : ℕ) → get_or type_commands b TypeCommand.unknown ≡ over f → bs ≡ encode t →
        ReadsBack t → suc (depth t) ≤ levels → type_within (commands_of head) levels s at ≡ read (f t) (at + suc (length (encode t)))
    unfolding ReadsBack rest_of_type ◌>>=◌ next give
    reads_over f t zero e k ih d = absurd (omega arith)
    reads_over f t (suc levels) e k ih d =
        let q = ih head levels s (at + 1) (rw k at (at_next h)) (omega arith) in
        let z : at + 1 + length (encode t) ≡ at + suc (length (encode t)) = omega arith in
        first_byte levels ∙ rw (e, q, z)

    -- a handle's or a parameter's number
    reads_index :
        (f : ℕ → SignatureToken) (i levels : ℕ) → get_or type_commands b TypeCommand.unknown ≡ TypeCommand.index f → bs ≡ i % 256 ∷ i / 256 ∷ [] →
        1 ≤ levels → type_within (commands_of head) levels s at ≡ read (f i) (at + 3)
    unfolding rest_of_type ◌>>=◌ next give
    reads_index f i zero e k d = absurd (omega arith)
    reads_index f i (suc levels) e k d =
        let z : at + 1 + 1 + 1 ≡ at + 3 = omega arith in
        first_byte levels ∙ rw (e, u16_at (rw k at (at_next h)), z)

    reads_leaf :
        (t : SignatureToken) (levels : ℕ) → get_or type_commands b TypeCommand.unknown ≡ leaf t → 1 ≤ levels →
        type_within (commands_of head) levels s at ≡ read t (at + 1)
    unfolding rest_of_type give
    reads_leaf t zero e d = absurd (omega arith)
    reads_leaf t (suc levels) e d = first_byte levels ∙ rw e

  -- an instantiated struct
  reads_instantiation :
      (i : ℕ) (ts : SignatureTokens) → ReadBackAll ts → (levels : ℕ) (s : List ℕ) (at : ℕ) →
      At s at (0x09 ∷ i % 256 ∷ i / 256 ∷ count ts ∷ encode_all ts) → suc (depth_all ts) ≤ levels →
      type_within (commands_of head) levels s at ≡ read (StructInstantiation i ts) (at + suc (suc (suc (suc (length (encode_all ts))))))
  unfolding ReadBackAll rest_of_type ◌>>=◌ next give
  reads_instantiation i ts ih zero s at h d = absurd (omega arith)
  reads_instantiation i ts ih (suc levels) s at h d =
      let k = at_next h in
      let c : At s (at + 1 + 1 + 1) (count ts ∷ encode_all ts) = at_next (at_next k) in
      let q = ih head levels s (at + 1 + 1 + 1 + 1) (at_next c) (omega arith) in
      let z : at + 1 + 1 + 1 + 1 + length (encode_all ts) ≡ at + suc (suc (suc (suc (length (encode_all ts))))) = omega arith in
      first_byte h levels ∙ rw (u16_at k, byte_at c, q, arguments_list_of ts, z)

  reads_more :
      (t : SignatureToken) (ts : SignatureTokens) → ReadsBack t → ReadBackAll ts → (levels : ℕ) (s : List ℕ) (at : ℕ) →
      At s at (encode t ++ encode_all ts) → max (depth t) (depth_all ts) ≤ levels →
      many (suc (count ts)) (type_within (commands_of head) levels) s at ≡ read (t ∷ list_of ts) (at + length (encode t ++ encode_all ts))
  unfolding ReadsBack ReadBackAll many ◌>>=◌ next give
  reads_more t ts ih ihs levels s at h d =
      let q = ih head levels s at (at_front (encode t) (encode_all ts) h) (omega arith) in
      let qs = ihs head levels s (at + length (encode t)) (at_back (encode t) (encode_all ts) h) (omega arith) in
      let z : at + length (encode t) + length (encode_all ts) ≡ at + length (encode t ++ encode_all ts) = omega (arith, length-append (encode t) (encode_all ts)) in
      rw (q, qs, z)

-- ── the theorems ──

mutual
  unfolding ReadsBack ReadBackAll encode depth list_of count many give

  pub reads_back : (t : SignatureToken) → ReadsBack t
  reads_back Bool' head levels s at h d = reads_leaf head h Bool' levels refl d
  reads_back U8 head levels s at h d = reads_leaf head h U8 levels refl d
  reads_back U64 head levels s at h d = reads_leaf head h U64 levels refl d
  reads_back U128 head levels s at h d = reads_leaf head h U128 levels refl d
  reads_back Address head levels s at h d = reads_leaf head h Address levels refl d
  reads_back Signer head levels s at h d = reads_leaf head h Signer levels refl d
  reads_back (Vector t) head levels s at h d = reads_over head h Vector t levels refl refl (λ hd l s a k e. reads_back t hd l s a k e) d
  reads_back (Struct i) head levels s at h d = reads_index head h Struct i levels refl refl d
  reads_back (StructInstantiation i ts) head levels s at h d =
      reads_instantiation head i ts (λ hd l s a k e. read_back_all ts hd l s a k e) levels s at h d
  reads_back (Reference t) head levels s at h d = reads_over head h Reference t levels refl refl (λ hd l s a k e. reads_back t hd l s a k e) d
  reads_back (MutableReference t) head levels s at h d =
      reads_over head h MutableReference t levels refl refl (λ hd l s a k e. reads_back t hd l s a k e) d
  reads_back (TypeParameter i) head levels s at h d = reads_index head h TypeParameter i levels refl refl d

  pub read_back_all : (ts : SignatureTokens) → ReadBackAll ts
  read_back_all []ᵗ head levels s at h d = let z : at ≡ at + 0 = omega arith in ap (read []) z
  read_back_all (t ∷ᵗ ts) head levels s at h d =
      reads_more head t ts (λ hd l s a k e. reads_back t hd l s a k e) (λ hd l s a k e. read_back_all ts hd l s a k e) levels s at h d

-- one type at most stands at a position
pub one_type : {s : List ℕ} {at : ℕ} (t u : SignatureToken) → At s at (encode t) → At s at (encode u) → t ≡ u
unfolding ReadsBack
one_type {s} {at} t u h k =
    let a = reads_back t Module (depth t + depth u) s at h (omega arith) in
    let b = reads_back u Module (depth t + depth u) s at k (omega arith) in
    cc

-- a prefix code: what a list begins with is one type at most
pub prefix_code : (t u : SignatureToken) (r q : List ℕ) → encode t ++ r ≡ encode u ++ q → (t ≡ u) × (r ≡ q)
prefix_code t u r q e =
    let same : t ≡ u = one_type t u (at_start (encode t) r) (rw (← e) at (at_start (encode u) q)) in
    (same, sym (drop-append_seam (encode t) r) ∙ ap (drop (length (encode t))) e ∙ rw same (drop-append_seam (encode u) q))

-- TWO TYPES ARE EQUAL EXACTLY WHEN THEIR BYTES ARE
pub equal_bytes : (t u : SignatureToken) → (t ≡ u) ↔ (encode t ≡ encode u)
equal_bytes t u = (ap encode, λ e. (prefix_code t u [] [] (ap (λ (l : List ℕ). l ++ []) e)).0)
