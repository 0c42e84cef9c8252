-- Effects that are looked up: one look-up after another, what each look-up of the unit tells, a call's effect by the counts of its two
-- signatures, the decision over the opcode, and the pair of an instruction's opcode.
use Rattle.std.specs.Prelude.{Result, Ok, Err}
use mathlib.Core.Path.{◌≡◌, refl, sym, ap₂, ◌∙◌}
use mathlib.Core.Bool.{true}
use Prim.Native.Nat.{ℕ, ◌<◌}
use lib.ListN.{length}
use Rattle.std.proofs.Common.{arith}
use Rattle.std.proofs.lemmas.Bool.Decides.{nat_tests}
use borrow.Author.Tests.{eq-eqb, ne_eqb}
use Rattle.status.specs.declared.StatusCode.{StatusCode}
use Rattle.definitions.specs.Result as results
use Rattle.definitions.specs.Result.{ok, err, ◌>>?◌}
use Rattle.definitions.specs.CompiledUnit.{CompiledUnit, StructFieldInformation, Native, Declared, signature_at, function_handle_at, function_instantiation_at, struct_def_at}
use Rattle.definitions.specs.Commands.{one_of}
use Rattle.definitions.specs.StackUsage.{◌⇒◌, field_count, field_count_at, field_count_of_instantiation, call_effect, instruction_effect}
use Rattle.record_views.specs.declared.Instruction.{Instruction}
use Rattle.record_views.specs.declared.Fields.{Fields}
use Rattle.record_views.specs.declared.StructDef.{StructDef}
use Rattle.signature_token.specs.declared.SignatureView.{SignatureView}
use Rattle.record_views.specs.Records.{FieldsAre, ListIs, DefIs, instruction_of}
use Rattle.unit_tables.specs.declared.UnitView.{UnitView}
use Rattle.unit_tables.specs.Compiled.{compiled}
use Rattle.unit_tables.specs.Answers.{told, ResultIs, what_found, why_refused}
use Rattle.code_views.specs.Answers.{opcode_byte, InstructionAt, OpcodeAt}
use Rattle.code_views.specs.Lookups.{opcode_is}
use Rattle.instruction_effect.specs.declared.Effect.{Effect}
use Rattle.instruction_effect.specs.Effects.{looks_up, PairOf, EntryOf}
use Rattle.instruction_effect.specs.Answers.{pops_and_pushes, InstructionEffectAt}

-- ── one look-up after another ──

module _ {A B : Type 0} (k : A → results.Result B) where
  -- a refusal stays
  pub none_then : (v : StatusCode) → (err v >>? k) ≡ err v
  unfolding ◌>>?◌
  none_then v = refl

  -- go on with what was found
  pub some_then : (a : A) → (ok a >>? k) ≡ k a
  unfolding ◌>>?◌
  some_then a = refl

pub ruleset steps = (none_then, some_then)

-- ── what the look-ups tell ──

module _ (u : CompiledUnit) (p r : ℕ) where
  pub parameters_refused : {v : StatusCode} → ResultIs ListIs (signature_at u p) (Err v) → call_effect u (record { parameters = p; return = r }) ≡ err v
  unfolding call_effect ◌>>?◌
  parameters_refused w = rw (why_refused w) refl

  module _ {l : SignatureView} (w : ResultIs ListIs (signature_at u p) (Ok l)) where
    pub returns_refused : {v : StatusCode} → ResultIs ListIs (signature_at u r) (Err v) → call_effect u (record { parameters = p; return = r }) ≡ err v
    unfolding call_effect ◌>>?◌
    returns_refused x = rw ((what_found w).1, why_refused x) refl

    pub both_found : {m : SignatureView} → ResultIs ListIs (signature_at u r) (Ok m) → call_effect u (record { parameters = p; return = r }) ≡ (l.types.count ⇒ m.types.count)
    unfolding call_effect ◌>>?◌
    both_found x =
        let (ps, p, k) = what_found w in
        let (rs, q, l) = what_found x in
        rw (p, q) (ap₂ ◌⇒◌ (sym k.counted) (sym l.counted))

-- how many fields a struct counts
abbrev count_of : Fields → ℕ
count_of Fields.Native = 0
count_of (Fields.Declared l) = l.types.count

fields_counted : (f : Fields) (x : StructFieldInformation) → FieldsAre x f → count_of f ≡ field_count x
fields_counted Fields.Native Native k = refl
fields_counted Fields.Native (Declared ts) k = absurd k
fields_counted (Fields.Declared l) Native k = absurd k
fields_counted (Fields.Declared l) (Declared ts) k = k.counted

module _ (u : CompiledUnit) (i : ℕ) where
  pub def_refused : {v : StatusCode} → ResultIs DefIs (struct_def_at u i) (Err v) → field_count_at u i ≡ err v
  unfolding field_count_at ◌>>?◌
  def_refused w = rw (why_refused w) refl

  pub def_counted : {d : StructDef} → ResultIs DefIs (struct_def_at u i) (Ok d) → field_count_at u i ≡ ok (count_of d.fields)
  unfolding field_count_at ◌>>?◌
  def_counted {d} w =
      let (def, is, k) = what_found w in
      rw (is, fields_counted d.fields def.field_information k.fields) refl

pub ruleset call_laws = (parameters_refused, returns_refused, both_found)

pub ruleset field_laws = (def_refused, def_counted)

-- ── the decision over the opcode ──

module _ (u : CompiledUnit) (l x n : ℕ) where
  pub ret : instruction_effect u (instruction_of 1 l x n) ≡ (length u.function.return ⇒ 0)
  unfolding instruction_effect instruction_of
  ret = refl

  pub call : instruction_effect u (instruction_of 17 l x n) ≡ (function_handle_at u x >>? call_effect u)
  unfolding instruction_effect instruction_of
  call = refl

  pub call_generic : instruction_effect u (instruction_of 18 l x n) ≡ (function_instantiation_at u x >>? λ inst. function_handle_at u inst.handle >>? call_effect u)
  unfolding instruction_effect instruction_of
  call_generic = refl

  pub pack : instruction_effect u (instruction_of 19 l x n) ≡ (field_count_at u x >>? λ c. c ⇒ 1)
  unfolding instruction_effect instruction_of
  pack = refl

  pub pack_generic : instruction_effect u (instruction_of 20 l x n) ≡ (field_count_of_instantiation u x >>? λ c. c ⇒ 1)
  unfolding instruction_effect instruction_of
  pack_generic = refl

  pub unpack : instruction_effect u (instruction_of 21 l x n) ≡ (field_count_at u x >>? λ c. 1 ⇒ c)
  unfolding instruction_effect instruction_of
  unpack = refl

  pub unpack_generic : instruction_effect u (instruction_of 22 l x n) ≡ (field_count_of_instantiation u x >>? λ c. 1 ⇒ c)
  unfolding instruction_effect instruction_of
  unpack_generic = refl

  pub vec_pack : instruction_effect u (instruction_of 63 l x n) ≡ (n ⇒ 1)
  unfolding instruction_effect instruction_of
  vec_pack = refl

  pub vec_unpack : instruction_effect u (instruction_of 69 l x n) ≡ (1 ⇒ n)
  unfolding instruction_effect instruction_of
  vec_unpack = refl

-- an opcode that looks its effect up, and is none of the others that do, is VecUnpack
pub last_of : (o : ℕ) → looks_up o ≡ true → (o ≡ 1 → ⊥) → (o ≡ 17 → ⊥) → (o ≡ 18 → ⊥) → (o ≡ 19 → ⊥) → (o ≡ 20 → ⊥) → (o ≡ 21 → ⊥) → (o ≡ 22 → ⊥) → (o ≡ 63 → ⊥) → o ≡ 69
unfolding looks_up one_of
last_of o e a b c d f g h i = grind (arith, nat_tests)

pub ruleset by_opcode = (ret, call, call_generic, pack, pack_generic, unpack, unpack_generic, vec_pack, vec_unpack, last_of, none_then, some_then)

-- the effect of the instruction that stands there
pub looked_up :
    {u : CompiledUnit} {i o : ℕ} {instruction : Instruction} {r : Result (ℕ × ℕ) StatusCode} → InstructionAt u i o instruction →
    told pops_and_pushes r ≡ instruction_effect u (instruction_of instruction.opcode instruction.local instruction.operand instruction.count) → InstructionEffectAt u i r
looked_up a e = record { instruction = _; stands = a.is; effect = e }

-- ── the pair of an instruction's opcode ──

module _ (unit : UnitView) {i : ℕ} (within : i < unit.view.code.count) where
  -- the instruction has its opcode and some operands
  here : OpcodeAt (compiled unit) i (opcode_byte unit i) (opcode_byte unit i)
  unfolding opcode_byte
  here = opcode_is unit (record { below = within; is = refl })

  module _ {pair : Effect} (h : EntryOf (opcode_byte unit i) pair) where
    entry : PairOf (compiled unit) here.local here.operand here.count (opcode_byte unit i) pair
    entry = h.is _ _ _ _

    -- one whose pair is marked looks its effect up
    pub marked : pair.0 ≡ 0xFF → looks_up (opcode_byte unit i) ≡ true
    marked k = entry.marked ∙ eq-eqb _ _ k

    -- any other has the pair's effect
    pub in_table : {a b : ℕ} → a ≡ pair.0 → b ≡ pair.1 → (pair.0 ≡ 0xFF → ⊥) → InstructionEffectAt (compiled unit) i (Ok (a, b))
    in_table e f k = record { instruction = _; stands = here.is; effect = rw (e, f) (sym (entry.agrees (entry.marked ∙ ne_eqb _ _ k))) }

pub ruleset by_table = (marked, in_table)
