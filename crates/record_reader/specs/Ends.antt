-- Where reading ends: so many bytes on or further, and not past the unit's length. One law for each form of the definitions, then one for
-- each reader of a type, a record and an instruction.
use Rattle.std.proofs.Math.Path.{◌≡◌, refl}
use Rattle.std.proofs.Common.{sym, ap, ◌∙◌, arith}
use Rattle.std.specs.Prelude.{Bool, true, false, ltb, leb, eqb, get_or, Ok}
use mathlib.Core.List.{List, []}
use Prim.Native.Nat.{ℕ, zero, suc, ◌+◌, ◌≤◌}
use Rattle.std.proofs.Math.Decide.{dec_le}
use Rattle.std.proofs.Math.ListN.{length}
use Rattle.status.specs.declared.StatusCode.{StatusCode}
use Rattle.status.specs.declared.StatusCode.TheVariants.{COMMAND, VALUE, DEPTH}
use Rattle.definitions.specs.Bytecode.{Bytecode}
use Rattle.definitions.specs.SignatureToken.{SignatureToken, Signature}
use Rattle.definitions.specs.CompiledUnit.{Native, Declared}
use Rattle.definitions.specs.Reading.{Read, read, stop, Reader, next, ◌>>=◌, ◌>>◌, give, fail, here, need, byte, skip, many}
use Rattle.definitions.specs.Commands.{TypeCommand, leaf, over, instantiation, InstructionForm, plain, unkept, local, Commands, type_command, instruction_form}
use Rattle.definitions.specs.Reader.{rest_of_type, type_within, type, types, byte_up_to, struct_handle, pair_of, field_information, struct_definition, signature_of, function_view, operands, instruction}
use Rattle.record_reader.specs.ReadTo.{read_to}
use Rattle.record_reader.specs.Alike.{Alike, skip_next, skip_short, alike_forget, alike_map, byte_takes, u16_takes, number_takes, pair_of_takes}
use Rattle.record_reader.specs.Bodies.{counted, pair, if_else, body_of}
use Rattle.record_reader.specs.BodyLaws.{struct_handle_alike, struct_definition_alike, function_view_alike}

-- the end e lies at p or further, and within s
pub record Ends (s : List ℕ) (p e : ℕ) : Type 0 where
  pub far : p ≤ e
  pub within : e ≤ length s

-- m takes n bytes or more, and none that is missing
pub record Reaches {A : Type 0} (n : ℕ) (m : Reader A) : Type 0 where
  pub reaches : (s : List ℕ) (at e : ℕ) → at ≤ length s → read_to (m s at) ≡ Ok e → Ends s (at + n) e

-- the same, where the value is known
pub reads_within :
    {A : Type 0} {m : Reader A} {n : ℕ} → Reaches n m → (s : List ℕ) (at : ℕ) {a : A} {e : ℕ} → at ≤ length s → m s at ≡ read a e → Ends s (at + n) e
unfolding read_to
reads_within h s at {a} {e} l q = h.reaches s at e l (ap read_to q)

-- ── the forms ──

module _ {A B : Type 0} {m : Reader A} {n : Reader B} where
  pub alike_reaches : {k : ℕ} → Alike m n → Reaches k n → Reaches k m
  alike_reaches h r = record { reaches = λ s at e l q. r.reaches s at e l (sym (h.alike s at) ∙ q) }

module _ {A : Type 0} {m : Reader A} where
  pub reaches_less : {k : ℕ} (j : ℕ) → j ≤ k → Reaches k m → Reaches j m
  reaches_less {k} j h r =
      record { reaches = λ s at e l q. let d = r.reaches s at e l q in record { far = omega (arith, d.far); within = d.within } }

module _ {A B : Type 0} {m : Reader A} {f : A → Reader B} {a b : ℕ} where
  pub then-reaches : Reaches a m → ((x : A) → Reaches b (f x)) → Reaches (a + b) (m >>= f)
  unfolding ◌>>=◌ next read_to
  then-reaches h k = record { reaches = λ s at e l q. go s at e l (m s at) refl q }
    where
      go : (s : List ℕ) (at e : ℕ) → at ≤ length s → (r : Read A) → m s at ≡ r → read_to (next r (λ x d. f x s d)) ≡ Ok e → Ends s (at + (a + b)) e
      go s at e l (read x d) p q =
          let i = h.reaches s at d l (ap read_to p) in
          let j = (k x).reaches s d e i.within q in
          record { far = omega (arith, i.far, j.far); within = j.within }
      go s at e l (stop w o) p q = let z : ◌≡◌ {A = ℕ} 0 1 = cc in absurd (omega arith)

skip_reaches : (n : ℕ) → Reaches n (skip n)
unfolding read_to
skip_reaches n = record { reaches = λ s at e l q. go s at e (dec_le (at + n) (length s)) q }
  where
    go : (s : List ℕ) (at e : ℕ) → Dec (at + n ≤ length s) → read_to (skip n s at) ≡ Ok e → Ends s (at + n) e
    go s at e (yes h) q = let z : at + n ≡ e = let y = rw (skip_next s at n h) at q in cc in record { far = omega arith; within = omega arith }
    go s at e (no h) q = let z : ◌≡◌ {A = ℕ} 0 1 = let y = rw (skip_short s at n (omega arith)) at q in cc in absurd (omega arith)

give_reaches : {A : Type 0} (a : A) → Reaches 0 (give a)
unfolding give read_to
give_reaches a = record { reaches = λ s at e l q. let z : at ≡ e = cc in record { far = omega arith; within = omega arith } }

here_reaches : Reaches 0 here
unfolding here read_to
here_reaches = record { reaches = λ s at e l q. let z : at ≡ e = cc in record { far = omega arith; within = omega arith } }

-- a refusal ends nowhere
fail_reaches : (A : Type 0) (status : StatusCode) (p n : ℕ) → Reaches {A = A} n (fail status p)
unfolding fail read_to
fail_reaches A status p n = record { reaches = λ s at e l q. let z : ◌≡◌ {A = ℕ} 0 1 = cc in absurd (omega arith) }

need_reaches : (t : Bool) (status : StatusCode) (p : ℕ) → Reaches 0 (need t status p)
unfolding need give fail
need_reaches true status p = give_reaches tt
need_reaches false status p = fail_reaches (Unit {0}) status p 0

module _ {A B : Type 0} {m : Reader A} {n : ℕ} (h : Reaches n m) where
  map_reaches : (g : A → B) → Reaches n (m >>= λ a. give (g a))
  map_reaches g = alike_reaches (alike_map m g) h

-- what is read is judged when it is whole
judged_reaches :
    {A B : Type 0} {m : Reader A} {n : ℕ} → Reaches n m → (t : A → Bool) (status : StatusCode) (g : A → B) →
    Reaches n (here >>= λ p. m >>= λ a. need (t a) status p >> give (g a))
unfolding ◌>>◌ ◌>>=◌
judged_reaches {A} {B} {m} {n} h t status g =
    reaches_less n (omega arith) (then-reaches here_reaches λ p. then-reaches h λ a. map_reaches (need_reaches (t a) status p) (λ _. g a))

many_reaches : {A : Type 0} {m : Reader A} {n : ℕ} → Reaches n m → (k : ℕ) → Reaches 0 (many k m)
unfolding many
many_reaches h zero = give_reaches []
many_reaches h (suc k) = then-reaches (reaches_less 0 (omega arith) h) (λ a. map_reaches (many_reaches h k) _)

byte_reaches : Reaches 1 byte
byte_reaches = alike_reaches byte_takes (skip_reaches 1)

pub counted_reaches : {A : Type 0} {m : Reader A} {n : ℕ} → Reaches n m → Reaches 1 (counted m)
unfolding counted
counted_reaches h = then-reaches byte_reaches (λ k. many_reaches h k)

-- ── types ──

rest_reaches : {type : Reader SignatureToken} {n : ℕ} → Reaches n type → (p : ℕ) (command : TypeCommand) → Reaches 0 (rest_of_type type p command)
unfolding rest_of_type
rest_reaches h p (leaf t) = give_reaches t
rest_reaches h p (over f) = reaches_less 0 (omega arith) (map_reaches h f)
rest_reaches h p (TypeCommand.index f) = reaches_less 0 (omega arith) (map_reaches (alike_reaches u16_takes (skip_reaches 2)) f)
rest_reaches h p instantiation =
    reaches_less 0 (omega arith)
    (then-reaches (alike_reaches u16_takes (skip_reaches 2)) λ i. then-reaches byte_reaches λ k. map_reaches (many_reaches h k) _)
rest_reaches h p TypeCommand.unknown = fail_reaches SignatureToken COMMAND p 0

module _ (commands : Commands) where
  pub type_reaches : (levels : ℕ) → Reaches 1 (type_within commands levels)
  unfolding type_within ◌>>◌ ◌>>=◌
  type_reaches zero = then-reaches here_reaches λ p. then-reaches {b = 0} byte_reaches λ c. fail_reaches SignatureToken DEPTH p 0
  type_reaches (suc levels) =
      then-reaches here_reaches λ p. then-reaches byte_reaches λ c. rest_reaches (type_reaches levels) p (type_command commands c)

  pub types_reaches : Reaches 1 (types commands)
  unfolding types type
  types_reaches = then-reaches byte_reaches (λ k. many_reaches (type_reaches 32) k)

-- ── records ──

byte_up_to_reaches : (most : ℕ) → Reaches 1 (byte_up_to most)
unfolding byte_up_to
byte_up_to_reaches most = judged_reaches byte_reaches (λ b. leb b most) VALUE (λ b. b)

pub struct_handle_reaches : Reaches 2 struct_handle
struct_handle_reaches = alike_reaches struct_handle_alike (then-reaches (byte_up_to_reaches 15) (λ _. counted_reaches (byte_up_to_reaches 1)))

pub pair_of_reaches : {A : Type 0} (f : ℕ → ℕ → A) → Reaches 4 (pair_of f)
pair_of_reaches f = alike_reaches (pair_of_takes f) (skip_reaches 4)

fields_reaches : (commands : Commands) (kind : ℕ) → Reaches 0 (field_information commands kind)
unfolding field_information
fields_reaches commands zero = give_reaches Native
fields_reaches commands (suc k) = reaches_less 0 (omega arith) (map_reaches (types_reaches commands) Declared)

pub struct_definition_reaches : (commands : Commands) → Reaches 3 (struct_definition commands)
struct_definition_reaches commands =
    alike_reaches (struct_definition_alike commands)
    (then-reaches (skip_reaches 2) λ _. then-reaches (byte_up_to_reaches 1) λ kind. fields_reaches commands kind)

signature_of_reaches : (l : List Signature) → Reaches 2 (signature_of l)
unfolding signature_of
signature_of_reaches l = judged_reaches (alike_reaches u16_takes (skip_reaches 2)) (λ i. ltb i (length l)) VALUE (λ i. get_or l i [])

pub function_view_reaches : (l : List Signature) → Reaches 7 (function_view l)
function_view_reaches l =
    alike_reaches (function_view_alike l)
    (then-reaches r λ _. then-reaches r λ _. then-reaches r λ _. counted_reaches (byte_up_to_reaches 15))
  where
    r : Reaches 2 (signature_of l)
    r = signature_of_reaches l

-- the body of any table's record
pub body_reaches : (commands : Commands) (c : ℕ) → Reaches 1 (body_of commands c)
unfolding body_of pair type
body_reaches commands c =
    either (eqb c 0x10) (reaches_less 1 (omega arith) (alike_reaches (alike_forget struct_handle) struct_handle_reaches))
    (either (eqb c 0x11) (alike_reaches (alike_forget (types commands)) (types_reaches commands))
    (either (eqb c 0x14) (reaches_less 1 (omega arith) (alike_reaches (alike_forget (struct_definition commands)) (struct_definition_reaches commands)))
    (either (eqb c 0x18) (alike_reaches (alike_forget (type commands)) (type_reaches commands 32)) (reaches_less 1 (omega arith) (pair_of_reaches _)))))
  where
    either : (t : Bool) {x y : Reader (Unit {0})} → Reaches 1 x → Reaches 1 y → Reaches 1 (if_else t x y)
    either true h k = h
    either false h k = k

-- ── code ──

operands_reaches : (p : ℕ) (form : InstructionForm) → Reaches 0 (operands p form)
unfolding operands ◌>>◌ ◌>>=◌
operands_reaches p (plain i) = give_reaches i
operands_reaches p (unkept n i) = reaches_less 0 (omega arith) (map_reaches (skip_reaches n) (λ _. i))
operands_reaches p (local f) = reaches_less 0 (omega arith) (map_reaches byte_reaches f)
operands_reaches p (InstructionForm.index f) = reaches_less 0 (omega arith) (map_reaches (alike_reaches u16_takes (skip_reaches 2)) f)
operands_reaches p (InstructionForm.counted f) =
    reaches_less 0 (omega arith)
    (then-reaches (alike_reaches u16_takes (skip_reaches 2)) λ x. map_reaches (alike_reaches (number_takes 7) (skip_reaches 8)) (f x))
operands_reaches p InstructionForm.unknown = fail_reaches Bytecode COMMAND p 0

pub instruction_reaches : (commands : Commands) → Reaches 1 (instruction commands)
unfolding instruction
instruction_reaches commands =
    then-reaches here_reaches λ p. then-reaches byte_reaches λ c. operands_reaches p (instruction_form commands c)
