-- Reading taken apart: from what a reader read, what its parts read and which bytes stand there. For two u16 and for an instruction this
-- gives their values, byte by byte; for types see Sound.
use Rattle.std.proofs.Math.Path.{◌≡◌, refl}
use Rattle.std.proofs.Common.{sym, ap, ap₂, ◌∙◌, arith}
use Rattle.std.specs.Prelude.{List, ℕ, zero, suc, ◌+◌, ◌*◌, ◌≤◌, ◌<◌, length, get_or}
use Rattle.std.proofs.Math.Decide.{dec_le}
use Rattle.definitions.specs.Bytecode.{Bytecode}
use Rattle.definitions.specs.CompiledUnit.{Head}
use Rattle.definitions.specs.Reading.{Read, read, stop, Reader, next, ◌>>=◌, ◌>>◌, give, fail, here, byte, u16, number, skip}
use Rattle.definitions.specs.Commands.{InstructionForm, plain, unkept, local, commands_of, instruction_forms, instruction_form}
use Rattle.definitions.specs.Reader.{pair_of, operands, instruction}
use Rattle.record_reader.specs.Alike.{byte_next, byte_short}
use Rattle.record_reader.specs.BodyLaws.{same_instructions}

-- ── parts ──

-- one reader after another read b: the first read a value up to d, and the second read b from there
pub record Parts {A B : Type 0} (m : Reader A) (f : A → Reader B) (s : List ℕ) (at : ℕ) (b : B) (e : ℕ) : Type 0 where
  pub value : A
  pub middle : ℕ
  pub first : m s at ≡ read value middle
  pub second : f value s middle ≡ read b e

module _ {A B : Type 0} (m : Reader A) (f : A → Reader B) (s : List ℕ) (at : ℕ) {b : B} {e : ℕ} where
  pub parts : (m >>= f) s at ≡ read b e → Parts m f s at b e
  unfolding ◌>>=◌ next
  parts h = go (m s at) refl h
    where
      go : (r : Read A) → m s at ≡ r → next r (λ a d. f a s d) ≡ read b e → Parts m f s at b e
      go (read a d) p q = record { value = a; middle = d; first = p; second = q }
      go (stop w o) p q = let z : ◌≡◌ {A = ℕ} 0 1 = cc in absurd (omega arith)

-- a value was made
module _ {A : Type 0} {a b : A} {at e : ℕ} (s : List ℕ) where
  pub made : give a s at ≡ read b e → (a ≡ b) × (at ≡ e)
  unfolding give
  made h = (cc, cc)

pub record ByteRead (s : List ℕ) (at b e : ℕ) : Type 0 where
  pub within : at < length s
  pub is : b ≡ get_or s at 0
  pub next_at : e ≡ at + 1

pub byte_read : (s : List ℕ) (at : ℕ) {b e : ℕ} → byte s at ≡ read b e → ByteRead s at b e
byte_read s at {b} {e} h = go (dec_le (length s) at)
  where
    go : Dec (length s ≤ at) → ByteRead s at b e
    go (yes l) = let z : ◌≡◌ {A = ℕ} 0 1 = let y = sym (byte_short s at l) ∙ h in cc in absurd (omega arith)
    go (no l) =
        let k : at < length s = omega arith in
        let y = sym (byte_next s at k) ∙ h in
        record { within = k; is = cc; next_at = cc }

-- ── numbers ──

-- the u16 whose bytes stand at `at`
abbrev pub u16_of : List ℕ → ℕ → ℕ
u16_of s at = get_or s at 0 + 256 * get_or s (at + 1) 0

pub record U16Read (s : List ℕ) (at i e : ℕ) : Type 0 where
  pub within : at + 1 < length s
  pub is : i ≡ u16_of s at
  pub next_at : e ≡ at + 2

pub u16_read : (s : List ℕ) (at : ℕ) {i e : ℕ} → u16 s at ≡ read i e → U16Read s at i e
unfolding u16
u16_read s at {i} {e} h =
    let p = parts byte (λ lo. byte >>= λ hi. give (lo + 256 * hi)) s at h in
    let q = parts byte (λ hi. give (p.value + 256 * hi)) s p.middle p.second in
    let lo = byte_read s at p.first in
    let hi = byte_read s p.middle q.first in
    let m = made s q.second in
    record {
      within = omega (arith, lo.next_at, hi.within);
      is = sym m.0 ∙ ap₂ (λ (a b : ℕ). a + 256 * b) lo.is (hi.is ∙ ap (λ (x : ℕ). get_or s x 0) lo.next_at);
      next_at = omega (arith, lo.next_at, hi.next_at, m.1);
    }

-- two u16
pub record PairRead {A : Type 0} (f : ℕ → ℕ → A) (s : List ℕ) (at : ℕ) (a : A) (e : ℕ) : Type 0 where
  pub within : at + 3 < length s
  pub is : a ≡ f (u16_of s at) (u16_of s (at + 2))
  pub next_at : e ≡ at + 4

pub pair_read : {A : Type 0} (f : ℕ → ℕ → A) (s : List ℕ) (at : ℕ) {a : A} {e : ℕ} → pair_of f s at ≡ read a e → PairRead f s at a e
unfolding pair_of
pair_read f s at h =
    let p = parts u16 (λ a. u16 >>= λ b. give (f a b)) s at h in
    let q = parts u16 (λ b. give (f p.value b)) s p.middle p.second in
    let a = u16_read s at p.first in
    let b = u16_read s p.middle q.first in
    let m = made s q.second in
    record {
      within = omega (arith, a.next_at, b.within);
      is = sym m.0 ∙ ap₂ f a.is (b.is ∙ ap (u16_of s) a.next_at);
      next_at = omega (arith, a.next_at, b.next_at, m.1);
    }

-- ── an instruction ──

-- the number of n bytes that stand at `at`
unfoldable pub number_of : ℕ → List ℕ → ℕ → ℕ
number_of zero s at = 0
number_of (suc n) s at = get_or s at 0 + 256 * number_of n s (at + 1)

number_read : (n : ℕ) (s : List ℕ) (at : ℕ) {v e : ℕ} → number n s at ≡ read v e → v ≡ number_of n s at
unfolding number number_of
number_read zero s at h = sym (made s h).0
number_read (suc n) s at h =
    let p = parts byte (λ lo. number n >>= λ hi. give (lo + 256 * hi)) s at h in
    let q = parts (number n) (λ hi. give (p.value + 256 * hi)) s p.middle p.second in
    let lo = byte_read s at p.first in
    let hi = number_read n s p.middle q.first in
    sym (made s q.second).0 ∙ ap₂ (λ (a b : ℕ). a + 256 * b) lo.is (hi ∙ ap (number_of n s) lo.next_at)

-- b is the instruction of a form whose operands stand at p
pub data OperandsAt (s : List ℕ) (p : ℕ) (b : Bytecode) : InstructionForm → Type 0 where
  plain_at : {i : Bytecode} → b ≡ i → OperandsAt s p b (plain i)
  unkept_at : {n : ℕ} {i : Bytecode} → b ≡ i → OperandsAt s p b (unkept n i)
  local_at : {f : ℕ → Bytecode} → b ≡ f (get_or s p 0) → OperandsAt s p b (local f)
  index_at : {f : ℕ → Bytecode} → b ≡ f (u16_of s p) → OperandsAt s p b (InstructionForm.index f)
  counted_at : {f : ℕ → ℕ → Bytecode} → b ≡ f (u16_of s p) (number_of 8 s (p + 2)) → OperandsAt s p b (InstructionForm.counted f)

operands_read : (o : ℕ) (form : InstructionForm) (s : List ℕ) (p : ℕ) {b : Bytecode} {e : ℕ} → operands o form s p ≡ read b e → OperandsAt s p b form
unfolding operands fail ◌>>◌ ◌>>=◌
operands_read o (plain i) s p h = plain_at (sym (made s h).0)
operands_read o (unkept n i) s p h = let q = parts (skip n) (λ _. give i) s p h in unkept_at (sym (made s q.second).0)
operands_read o (local f) s p h =
    let q = parts byte (λ x. give (f x)) s p h in
    local_at (sym (made s q.second).0 ∙ ap f (byte_read s p q.first).is)
operands_read o (InstructionForm.index f) s p h =
    let q = parts u16 (λ x. give (f x)) s p h in
    index_at (sym (made s q.second).0 ∙ ap f (u16_read s p q.first).is)
operands_read o (InstructionForm.counted f) s p h =
    let q = parts u16 (λ x. number 8 >>= λ n. give (f x n)) s p h in
    let r = parts (number 8) (λ n. give (f q.value n)) s q.middle q.second in
    let x = u16_read s p q.first in
    counted_at (sym (made s r.second).0 ∙ ap₂ f x.is (number_read 8 s q.middle r.first ∙ ap (number_of 8 s) x.next_at))
operands_read o InstructionForm.unknown s p h = let z : ◌≡◌ {A = ℕ} 0 1 = cc in absurd (omega arith)

-- AN INSTRUCTION THAT IS READ STANDS THERE: its opcode, and its operands after it
pub record InstructionRead (s : List ℕ) (at : ℕ) (b : Bytecode) : Type 0 where
  pub within : at < length s
  pub operands_at : OperandsAt s (at + 1) b (get_or instruction_forms (get_or s at 0) InstructionForm.unknown)

pub instruction_read :
    (head : Head) (s : List ℕ) (at : ℕ) {b : Bytecode} {e : ℕ} → instruction (commands_of head) s at ≡ read b e → InstructionRead s at b
unfolding instruction here ◌>>=◌ next
instruction_read head s at {b} {e} h =
    let p = parts byte (λ c. operands at (instruction_form (commands_of head) c)) s at h in
    let o = byte_read s at p.first in
    record { within = o.within; operands_at = carried p.value p.middle o.is o.next_at p.second }
  where
    carried :
        (c d : ℕ) → c ≡ get_or s at 0 → d ≡ at + 1 → operands at (instruction_form (commands_of head) c) s d ≡ read b e →
        OperandsAt s (at + 1) b (get_or instruction_forms (get_or s at 0) InstructionForm.unknown)
    carried c d x y q =
        operands_read at (get_or instruction_forms (get_or s at 0) InstructionForm.unknown) s (at + 1)
        (ap₂ (λ (f : InstructionForm) (z : ℕ). operands at f s z) (sym (same_instructions head (get_or s at 0)) ∙ ap (instruction_form (commands_of head)) (sym x)) (sym y) ∙ q)
