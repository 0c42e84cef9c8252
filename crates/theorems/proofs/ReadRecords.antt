-- The law of each record of a unit, of a type and of an instruction: it spells the reader in Reader.antt. No type nests over 32 levels.
use Rattle.std.specs.Prelude.{List, length}
use Prim.Native.Nat.{ℕ, zero, suc, ◌≤◌}
use Rattle.std.proofs.Common.{le_refl, arith}
use Rattle.status.specs.declared.StatusCode.TheVariants.{COMMAND, ORDER, VALUE, DEPTH}
use Rattle.definitions.specs.SignatureToken.{SignatureToken, Signature, arguments, depth, depth_all, Vector, Struct}
use Rattle.definitions.specs.CompiledUnit.{Head, Module, Script}
use Rattle.definitions.specs.Reading.{Reader, many, placed}
use Rattle.definitions.specs.Commands.{TypeCommand, leaf, over, instantiation, type_commands, InstructionForm, plain, unkept, local, counted, Commands, commands_of, type_command}
use Rattle.definitions.specs.Reader.{rest_of_type, type_within, type, types, byte_up_to, ability, struct_type_parameter, struct_handle, pair_of, field_information, struct_definition, signature_of, function_view, operands, instruction, code, due}
use Rattle.theorems.specs.All.{All, none, more, all_get_d}
use Rattle.theorems.specs.Bounded.{NestsWithin, FieldsNestWithin, DefinitionNestsWithin}
use Rattle.theorems.specs.Reads.{Any, Reads, reads_to, reads_bind, reads_then, reads_give, reads_fail, reads_here, reads_need, reads_many, Stands, reads_placed}
use Rattle.theorems.proofs.ReadsBytes.{reads_byte, reads_skip, reads_u16, reads_number}
use Rattle.theorems.specs.ReadRecords.{ViewNestsWithin}

-- ── types ──

-- what a command makes of types one level down
abbrev Grows : TypeCommand → Type 0
Grows (leaf t) = depth t ≤ 1
Grows (over f) = (t : SignatureToken) → depth (f t) ≤ suc (depth t)
Grows (TypeCommand.index f) = (i : ℕ) → depth (f i) ≤ 1
Grows instantiation = Unit {0}
Grows TypeCommand.unknown = Unit {0}

all_grow : All Grows type_commands
unfolding depth
all_grow =
    more tt (more one (more one (more one (more one (more one (more one (more vector (more struct (more tt
    (more vector (more vector (more struct none))))))))))))
  where
    one : 1 ≤ 1
    one = le_refl 1

    vector : Grows (over Vector)
    vector t = le_refl (suc (depth t))

    struct : Grows (TypeCommand.index Struct)
    struct i = one

grows : (head : Head) (c : ℕ) → Grows (type_command (commands_of head) c)
unfolding type_command
grows Module c = all_get_d all_grow tt c
grows Script c = all_get_d all_grow tt c

depth_arguments : {n : ℕ} {ts : Signature} → All (NestsWithin n) ts → depth_all (arguments ts) ≤ n
unfolding arguments depth_all
depth_arguments none = omega arith
depth_arguments (more p ps) = omega (arith, depth_arguments ps)

module _ {s : List ℕ} where
  reads_rest_of_type :
      {type : Reader SignatureToken} (n p : ℕ) → Reads s (NestsWithin n) type → p ≤ length s → (c : TypeCommand) → Grows c →
      Reads s (NestsWithin (suc n)) (rest_of_type type p c)
  unfolding rest_of_type depth
  reads_rest_of_type n p h l (leaf t) g = reads_give _ (omega arith)
  reads_rest_of_type n p h l (over f) g = reads_bind h λ t q. reads_give _ (omega (arith, g t))
  reads_rest_of_type n p h l (TypeCommand.index f) g = reads_bind reads_u16 λ i _. reads_give _ (omega (arith, g i))
  reads_rest_of_type n p h l instantiation g =
      reads_bind reads_u16 λ i _. reads_bind reads_byte λ k _. reads_bind (reads_many k h) λ ts q. reads_give _ (omega (arith, depth_arguments q))
  reads_rest_of_type n p h l TypeCommand.unknown g = reads_fail COMMAND p tt l

  reads_type_within : (head : Head) (n : ℕ) → Reads s (NestsWithin n) (type_within (commands_of head) n)
  unfolding type_within
  reads_type_within head zero = reads_bind reads_here λ p l. reads_then reads_byte (reads_fail DEPTH p tt l)
  reads_type_within head (suc n) =
      reads_bind reads_here λ p l. reads_bind reads_byte λ c _. reads_rest_of_type n p (reads_type_within head n) l _ (grows head c)

  pub reads_type : (head : Head) → Reads s (NestsWithin 32) (type (commands_of head))
  unfolding type
  reads_type head = reads_type_within head 32

  pub reads_types : (head : Head) → Reads s (All (NestsWithin 32)) (types (commands_of head))
  unfolding types
  reads_types head = reads_bind reads_byte λ n _. reads_many n (reads_type head)

  -- ── records ──

  reads_byte_up_to : (most : ℕ) → Reads s Any (byte_up_to most)
  unfolding byte_up_to
  reads_byte_up_to most = reads_bind reads_here λ p l. reads_bind reads_byte λ b _. reads_then (reads_need _ VALUE p tt l) (reads_give _ tt)

  reads_ability : Reads s Any ability
  unfolding ability
  reads_ability = reads_byte_up_to 15

  pub reads_struct_handle : Reads s Any struct_handle
  unfolding struct_handle struct_type_parameter
  reads_struct_handle =
      reads_bind reads_ability λ a _. reads_bind reads_byte λ n _.
      reads_bind (reads_many n (reads_bind (reads_byte_up_to 1) λ b _. reads_give {Q = Any} _ tt)) λ ps _. reads_give _ tt

  -- a record of two u16
  pub reads_pair : {A : Type 0} (f : ℕ → ℕ → A) → Reads s Any (pair_of f)
  unfolding pair_of
  reads_pair f = reads_bind reads_u16 λ a _. reads_bind reads_u16 λ b _. reads_give _ tt

  reads_field_information : (head : Head) (kind : ℕ) → Reads s (FieldsNestWithin 32) (field_information (commands_of head) kind)
  unfolding field_information
  reads_field_information head zero = reads_give _ tt
  reads_field_information head (suc k) = reads_bind (reads_types head) λ ts q. reads_give _ q

  pub reads_struct_definition : (head : Head) → Reads s (DefinitionNestsWithin 32) (struct_definition (commands_of head))
  unfolding struct_definition
  reads_struct_definition head =
      reads_bind reads_u16 λ h _. reads_bind (reads_byte_up_to 1) λ kind _. reads_bind (reads_field_information head kind) λ fields q.
      reads_give _ q

  module _ (signatures : List Signature) (low : All (All (NestsWithin 32)) signatures) where
    reads_signature_of : Reads s (All (NestsWithin 32)) (signature_of signatures)
    unfolding signature_of
    reads_signature_of =
        reads_bind reads_here λ p l. reads_bind reads_u16 λ i _. reads_then (reads_need _ VALUE p tt l) (reads_give _ (all_get_d low none i))

    pub reads_function_view : Reads s (ViewNestsWithin 32) (function_view signatures)
    unfolding function_view
    reads_function_view =
        reads_bind reads_signature_of λ ps p. reads_bind reads_signature_of λ rs r. reads_bind reads_signature_of λ ls l.
        reads_bind reads_byte λ n _. reads_bind (reads_many n reads_ability) λ as' _. reads_give _ (record { parameters = p; return = r; locals = l })

  -- ── code ──

  pub reads_operands : (p : ℕ) → p ≤ length s → (form : InstructionForm) → Reads s Any (operands p form)
  unfolding operands
  reads_operands p l (plain i) = reads_give _ tt
  reads_operands p l (unkept n i) = reads_then (reads_skip n) (reads_give _ tt)
  reads_operands p l (local f) = reads_bind reads_byte λ x _. reads_give _ tt
  reads_operands p l (InstructionForm.index f) = reads_bind reads_u16 λ x _. reads_give _ tt
  reads_operands p l (counted f) = reads_bind reads_u16 λ x _. reads_bind (reads_number 8) λ n _. reads_give _ tt
  reads_operands p l InstructionForm.unknown = reads_fail COMMAND p tt l

  module _ (commands : Commands) where
    pub reads_instruction : Reads s Any (instruction commands)
    unfolding instruction
    reads_instruction = reads_bind reads_here λ p l. reads_bind reads_byte λ c _. reads_operands p l _

    pub reads_instructions : (n : ℕ) → Reads s (All (Stands s Any)) (many n (placed (instruction commands)))
    reads_instructions n = reads_many n (reads_placed reads_instruction)

    pub reads_code : Reads s (All (Stands s Any)) (code commands)
    unfolding code
    reads_code = reads_bind reads_u16 λ n _. reads_instructions n

    pub reads_due : (c : ℕ) → Reads s Any (due commands c)
    unfolding due
    reads_due c =
        reads_bind reads_here λ p l. reads_bind reads_byte λ b _.
        reads_then (reads_need _ COMMAND p tt l) (reads_to (λ _ _. tt) (reads_need _ ORDER p tt l))
