-- From what was read to the bytes: one law for each way that the code reads a record or an instruction again.
use Rattle.std.specs.Prelude.{◌≡◌, refl, Bool, true, false, List, [], ◌∷◌, ℕ, zero, suc, ◌+◌, ◌*◌, ◌≤◌, ◌<◌, leb, T, get_or, Ok}
use Rattle.std.proofs.Math.Path.{sym}
use Rattle.std.specs.Int.{from_le_bytes, w64}
use Rattle.std.proofs.Common.{ap, ap₂, ◌∙◌, arith, leb→le}
use Rattle.std.proofs.Math.Decide.{dec_le}
use Rattle.std.proofs.Math.ListN.{length, get_or-eq_default}
use Rattle.status.specs.declared.StatusCode.TheVariants.{VALUE}
use Rattle.definitions.specs.SignatureToken.{Signature, arguments, count}
use Rattle.definitions.specs.Bytecode.{Bytecode}
use Rattle.definitions.specs.CompiledUnit as defs
use Rattle.definitions.specs.Commands.{InstructionForm, plain, unkept, local, counted, commands_of, instruction_forms, instruction_form}
use Rattle.definitions.specs.Reading.{read, next, ◌>>=◌, ◌>>◌, give, here, need, byte, u16, number, skip, many}
use Rattle.definitions.specs.Places.{TypesAt}
use Rattle.theorems.specs.Bytes.{list_of, arguments_list_of}
use Rattle.definitions.specs.Reader.{type, types, byte_up_to, field_information, struct_definition, operands, instruction}
use Rattle.record_reader.specs.ReadTo.{read_to}
use Rattle.record_reader.specs.Alike.{skip_short, number_takes}
use Rattle.instruction_reader.specs.Widths.{width_of, operand_width}
use Rattle.record_reader.specs.BodyLaws.{same_instructions}
use Rattle.record_reader.specs.Apart.{parts, made, byte_read, u16_of, u16_read, number_of, OperandsAt, plain_at, unkept_at, local_at, index_at, counted_at, instruction_read}
use Rattle.record_reader.specs.Sound.{types_sound}
use Rattle.signature_token.specs.declared.SignatureView.{SignatureView}
use Rattle.record_views.specs.declared.Fields.{Fields}
use Rattle.record_views.specs.declared.StructDef.{StructDef}
use Rattle.record_views.specs.declared.Instruction.{Instruction}
use Rattle.record_views.specs.Records.{ListIs, ListStands, ListAt, TypesIn, ListHere, DefIs, DefAt, applied, instruction_of, InstructionHere, InstructionIs}

-- every element is a byte
abbrev pub Bytes : List ℕ → Type 0
Bytes s = (i : ℕ) → get_or s i 0 < 256

-- ── lists of types ──

pub count_arguments : (ts : Signature) → count (arguments ts) ≡ length ts
unfolding count arguments
count_arguments [] = refl
count_arguments (t ∷ ts) = ap suc (count_arguments ts)

-- the types of a list, as a walk takes them
abbrev pub types_at : {r : SignatureView} → TypesIn r → TypesAt r.types.bytes.now r.types.at r.types.count
types_at q = record { types = arguments q.types; counted = count_arguments q.types ∙ sym q.are.counted; stands = q.are.stands }

-- each list has its types
pub types_in : (r : SignatureView) → TypesIn r
types_in r =
    let k = r.types.stand in
    let e = arguments_list_of k.types in
    record {
      types = list_of k.types;
      are = record { counted = sym k.counted ∙ ap count (sym e) ∙ count_arguments (list_of k.types); stands = rw e k.stands };
    }

-- a list that was read at `at`: its count stands there, and its types behind it
pub list_read : {s : List ℕ} (bytes : Bytes s) (at : ℕ) {r : ℕ × ℕ} → r.0 ≡ at + 1 → r.1 ≡ get_or s at 0 → ListAt s at r
unfolding types type
list_read {s} bytes at {r} p q head ts e h =
    let a = parts byte (λ n. many n (type (commands_of head))) s at h in
    let b = byte_read s at a.first in
    let t = types_sound head s bytes 32 a.value a.middle e ts a.second in
    let n : length ts ≡ a.value = sym (count_arguments ts) ∙ t.number in
    let x : a.middle ≡ r.0 = b.next_at ∙ sym p in
    record { counted = q ∙ sym b.is ∙ sym n; small = omega (arith, bytes at); stands = rw x at t.stand }

module _ {s : List ℕ} {at : ℕ} (p : ListHere s at) where
  -- the count of a list that was read stands at `at`
  pub list_within : at < length s
  unfolding types
  list_within = (byte_read s at (parts byte (λ n. many n (type (commands_of p.head))) s at p.reads).first).within

  module _ {r : ℕ × ℕ} (l : ListAt s at r) where
    told_here : ListStands s p.types r
    told_here = l p.head p.types p.ends p.reads

    pub list_few : r.1 < 256
    list_few = told_here.small

    pub list_stands : TypesAt s r.0 r.1
    list_stands = record { types = arguments p.types; counted = count_arguments p.types ∙ sym told_here.counted; stands = told_here.stands }

    pub list_here : {v : SignatureView} → v.types.bytes.now ≡ s → v.types.at ≡ r.0 → v.types.count ≡ r.1 → ListIs p.types v
    list_here e f g = record { counted = g ∙ told_here.counted; stands = rw (e, f) told_here.stands }

-- ── struct definitions ──

-- a byte that is at most so much
pub record UpToRead (s : List ℕ) (at most b e : ℕ) : Type 0 where
  pub within : at < length s
  pub is : b ≡ get_or s at 0
  pub next_at : e ≡ at + 1
  pub least : b ≤ most

needed : (t : Bool) (s : List ℕ) (p at : ℕ) {u : Unit {0}} {e : ℕ} → need t VALUE p s at ≡ read u e → T t × (at ≡ e)
unfolding need
needed true s p at h = (tt, cc)
needed false s p at h = let z : ◌≡◌ {A = ℕ} 0 1 = cc in absurd (omega arith)

up_to_read : (most : ℕ) (s : List ℕ) (at : ℕ) {b e : ℕ} → byte_up_to most s at ≡ read b e → UpToRead s at most b e
unfolding byte_up_to here ◌>>=◌ ◌>>◌ next
up_to_read most s at h =
    let a = parts byte (λ b. need (leb b most) VALUE at >>= λ _. give b) s at h in
    let n = parts (need (leb a.value most) VALUE at) (λ _. give a.value) s a.middle a.second in
    let b = byte_read s at a.first in
    let (t, k) = needed (leb a.value most) s at a.middle n.first in
    let (x, y) = made s n.second in
    record { within = b.within; is = sym x ∙ b.is; next_at = sym y ∙ sym k ∙ b.next_at; least = rw (← x) (leb→le _ _ t) }

-- the parts of a struct definition's record, whose command stands at `at`
pub record DefRead (s : List ℕ) (at : ℕ) (head : defs.Head) (d : defs.StructDefinition) : Type 0 where
  pub within : at + 3 < length s
  pub handle : d.struct_handle ≡ u16_of s (at + 1)
  pub ends : ℕ
  pub fields : field_information (commands_of head) (get_or s (at + 3) 0) s (at + 4) ≡ read d.field_information ends

pub def_read : {s : List ℕ} {at : ℕ} (p : DefAt s at) → DefRead s at p.head p.def
unfolding struct_definition
def_read {s} {at} p =
    let k = commands_of p.head in
    let h = parts u16 (λ h. byte_up_to 1 >>= λ kind. field_information k kind >>= λ fields. give (record { struct_handle = h; field_information = fields })) s (at + 1) p.reads.reads in
    let t = parts (byte_up_to 1) (λ kind. field_information k kind >>= λ fields. give (record { struct_handle = h.value; field_information = fields })) s h.middle h.second in
    let f = parts (field_information k t.value) (λ fields. give (record { struct_handle = h.value; field_information = fields })) s t.middle t.second in
    let a = u16_read s (at + 1) h.first in
    let b = up_to_read 1 s h.middle t.first in
    let (x, y) = made s f.second in
    let m : h.middle ≡ at + 3 = a.next_at ∙ omega arith in
    let n : t.middle ≡ at + 4 = b.next_at ∙ omega arith in
    let v : t.value ≡ get_or s (at + 3) 0 = b.is ∙ ap (λ (i : ℕ). get_or s i 0) m in
    let w = b.within in
    record {
      within = omega arith;
      handle = sym (ap (λ (d : defs.StructDefinition). d.struct_handle) x) ∙ a.is;
      ends = f.middle;
      fields = sym (ap₂ (λ (x y : ℕ). field_information k x s y) v n) ∙ f.first ∙ ap (λ (d : defs.StructDefinition). read d.field_information f.middle) x;
    }

-- kind 1: a list of types
declared_read : (head : defs.Head) (s : List ℕ) (at kind : ℕ) → (kind ≡ 0 → ⊥) → {v : defs.StructFieldInformation} {e : ℕ} → field_information (commands_of head) kind s at ≡ read v e →
    (ts : Signature) × (d : ℕ) × (types (commands_of head) s at ≡ read ts d) × (v ≡ defs.Declared ts)
unfolding field_information
declared_read head s at zero n h = absurd (n refl)
declared_read head s at (suc kind) n h =
    let a = parts (types (commands_of head)) (λ ts. give (defs.Declared ts)) s at h in
    (a.value, a.middle, a.first, sym (made s a.second).0)

module _ {s : List ℕ} {at : ℕ} (p : DefAt s at) where
  -- kind 0
  pub def_native : {r : StructDef} → get_or s (at + 3) 0 ≡ 0 → r.handle.0 ≡ u16_of s (at + 1) → r.fields ≡ Fields.Native → DefIs p.def r
  unfolding field_information
  def_native {r} k h f =
      let d = def_read p in
      let n : defs.Native ≡ p.def.field_information = (made s (rw k at d.fields)).0 in
      record { handle = h ∙ sym d.handle; fields = rw (← n, f) tt }

  -- kind 1: a list of types stands behind it
  pub def_list : (get_or s (at + 3) 0 ≡ 0 → ⊥) → ListHere s (at + 4)
  def_list k =
      let d = def_read p in
      let (ts, e, x, y) = declared_read p.head s (at + 4) (get_or s (at + 3) 0) k d.fields in
      record { head = p.head; types = ts; ends = e; reads = x }

  pub def_declared :
      {r : StructDef} {l : SignatureView} → (get_or s (at + 3) 0 ≡ 0 → ⊥) → r.handle.0 ≡ u16_of s (at + 1) → r.fields ≡ Fields.Declared l →
      ((q : ListHere s (at + 4)) → ListIs q.types l) → DefIs p.def r
  def_declared {r} {l} k h f w =
      let d = def_read p in
      let (ts, e, x, y) = declared_read p.head s (at + 4) (get_or s (at + 3) 0) k d.fields in
      record { handle = h ∙ sym d.handle; fields = rw (y, f) (w (record { head = p.head; types = ts; ends = e; reads = x })) }

-- ── instructions ──

skip_room : (n : ℕ) (s : List ℕ) (at : ℕ) {e : ℕ} → read_to (skip n s at) ≡ Ok e → at + n ≤ length s
unfolding read_to
skip_room n s at {e} h = go (dec_le (at + n) (length s))
  where
    go : Dec (at + n ≤ length s) → at + n ≤ length s
    go (yes l) = l
    go (no l) = let z : ◌≡◌ {A = ℕ} 0 1 = let y = ap read_to (sym (skip_short s at n (omega arith))) in cc in absurd (omega arith)

-- there is room for the operands of an instruction that was read
operands_room : (o : ℕ) (form : InstructionForm) (s : List ℕ) (p : ℕ) {b : Bytecode} {e : ℕ} → p ≤ length s → operands o form s p ≡ read b e → p + width_of form ≤ length s
unfolding operands width_of ◌>>◌ ◌>>=◌ read_to
operands_room o (plain i) s p l h = omega arith
operands_room o (unkept n i) s p l h = let q = parts (skip n) (λ _. give i) s p h in skip_room n s p (ap read_to q.first)
operands_room o (local f) s p l h = let q = parts byte (λ x. give (f x)) s p h in let w = (byte_read s p q.first).within in omega arith
operands_room o (InstructionForm.index f) s p l h = let q = parts u16 (λ x. give (f x)) s p h in let w = (u16_read s p q.first).within in omega arith
operands_room o (counted f) s p l h =
    let q = parts u16 (λ x. number 8 >>= λ n. give (f x n)) s p h in
    let r = parts (number 8) (λ n. give (f q.value n)) s q.middle q.second in
    let m = (u16_read s p q.first).next_at in
    let w = skip_room 8 s q.middle (sym ((number_takes 7).alike s q.middle) ∙ ap read_to r.first) in
    omega arith
operands_room o InstructionForm.unknown s p l h = omega arith

-- an opcode that was read is one of the table's
opcode_known : (s : List ℕ) (p opcode : ℕ) {b : Bytecode} → OperandsAt s p b (get_or instruction_forms opcode InstructionForm.unknown) → opcode < 71
opcode_known s p opcode {b} o = go (dec_le 71 opcode)
  where
    unknown_not : (form : InstructionForm) → OperandsAt s p b form → form ≡ InstructionForm.unknown → ⊥
    unknown_not form (plain_at e) k = let z : ◌≡◌ {A = ℕ} 0 1 = cc in omega arith
    unknown_not form (unkept_at e) k = let z : ◌≡◌ {A = ℕ} 0 1 = cc in omega arith
    unknown_not form (local_at e) k = let z : ◌≡◌ {A = ℕ} 0 1 = cc in omega arith
    unknown_not form (index_at e) k = let z : ◌≡◌ {A = ℕ} 0 1 = cc in omega arith
    unknown_not form (counted_at e) k = let z : ◌≡◌ {A = ℕ} 0 1 = cc in omega arith

    go : Dec (71 ≤ opcode) → opcode < 71
    go (yes l) = absurd (unknown_not _ o (get_or-eq_default instruction_forms InstructionForm.unknown l))
    go (no l) = omega arith

-- what an instruction that was read leaves to be read again
pub record Reread (s : List ℕ) (at : ℕ) (b : Bytecode) : Type 0 where
  pub within : at < length s
  pub known : get_or s at 0 < 71
  pub room : at + 1 + operand_width (get_or s at 0) ≤ length s
  pub operands_at : OperandsAt s (at + 1) b (get_or instruction_forms (get_or s at 0) InstructionForm.unknown)

pub reread : {s : List ℕ} {at : ℕ} (p : InstructionHere s at) → Reread s at p.instruction
unfolding instruction here ◌>>=◌ next operand_width
reread {s} {at} p =
    let i = instruction_read p.head s at p.reads in
    let a = parts byte (λ c. operands at (instruction_form (commands_of p.head) c)) s at p.reads in
    let b = byte_read s at a.first in
    let w = b.within in
    let form : instruction_form (commands_of p.head) a.value ≡ get_or instruction_forms (get_or s at 0) InstructionForm.unknown =
    same_instructions p.head a.value ∙ ap (λ (c : ℕ). get_or instruction_forms c InstructionForm.unknown) b.is in
    let r : a.middle + width_of (instruction_form (commands_of p.head) a.value) ≤ length s = operands_room at _ s a.middle (omega (arith, b.next_at)) a.second in
    record {
      within = w;
      known = opcode_known s (at + 1) (get_or s at 0) i.operands_at;
      room = rw (b.next_at, form) at r;
      operands_at = i.operands_at;
    }

-- the instruction, by its operands as far as its form takes them
by_operands :
    {s : List ℕ} {p : ℕ} {b : Bytecode} (form : InstructionForm) → OperandsAt s p b form → {l x n : ℕ} → (width_of form ≡ 1 → l ≡ get_or s p 0) →
    (width_of form ≡ 2 → x ≡ u16_of s p) → (width_of form ≡ 10 → (x ≡ u16_of s p) × (n ≡ number_of 8 s (p + 2))) → b ≡ applied form l x n
unfolding width_of
by_operands form (plain_at e) f g h = e
by_operands form (unkept_at e) f g h = e
by_operands form (local_at e) f g h = rw (f refl) e
by_operands form (index_at e) f g h = rw (g refl) e
by_operands form (counted_at e) f g h = rw ((h refl).0, (h refl).1) e

pub is_here :
    {s : List ℕ} {at : ℕ} (p : InstructionHere s at) {r : Instruction} → r.opcode ≡ get_or s at 0 →
    (operand_width (get_or s at 0) ≡ 1 → r.local ≡ get_or s (at + 1) 0) → (operand_width (get_or s at 0) ≡ 2 → r.operand ≡ u16_of s (at + 1)) →
    (operand_width (get_or s at 0) ≡ 10 → (r.operand ≡ u16_of s (at + 1)) × (r.count ≡ number_of 8 s (at + 1 + 2))) → InstructionIs p r
unfolding instruction_of operand_width
is_here p o f g h = record { known = rw o (reread p).known; opcode = o; is = rw o (by_operands _ (reread p).operands_at f g h) }

-- ── a u64 ──

-- a u64 is eight bytes, the low one first
module _ (s : List ℕ) (at : ℕ) where
  one_more : (n i : ℕ) → number_of (suc n) s (at + i) ≡ get_or s (at + i) 0 + 256 * number_of n s (at + (i + 1))
  unfolding number_of
  one_more n i = let e : at + i + 1 ≡ at + (i + 1) = omega arith in ap (λ (x : ℕ). get_or s (at + i) 0 + 256 * number_of n s x) e

  pub eight_bytes :
      number_of 8 s at
      ≡ from_le_bytes w64
      (get_or s at 0 ∷ get_or s (at + 1) 0 ∷ get_or s (at + 2) 0 ∷ get_or s (at + 3) 0
      ∷ get_or s (at + 4) 0 ∷ get_or s (at + 5) 0 ∷ get_or s (at + 6) 0 ∷ get_or s (at + 7) 0 ∷ [])
  unfolding number_of
  eight_bytes =
      let b = one_more 6 1 in
      let c = one_more 5 2 in
      let d = one_more 4 3 in
      let e = one_more 3 4 in
      let f = one_more 2 5 in
      let g = one_more 1 6 in
      let h = one_more 0 7 in
      omega arith
