-- The body of each table's record is read as the definitions read it; what the functions of this crate read, in the terms of the definitions.
use Rattle.std.specs.Prelude.{◌≡◌, refl, List, ℕ, get_or}
use Rattle.definitions.specs.SignatureToken.{Signature}
use Rattle.definitions.specs.Reading.{◌>>=◌, byte, skip, many}
use Rattle.definitions.specs.CompiledUnit.{Head, Module, Script}
use Rattle.definitions.specs.Commands.{TypeCommand, InstructionForm, Commands, commands_of, type_commands, type_command, instruction_forms, instruction_form}
use Rattle.definitions.specs.Reader.{type, type_within, types, ability, byte_up_to, struct_type_parameter, struct_handle, pair_of, function_handle, function_instantiation, field_information, struct_definition, struct_def_instantiation, field_handle, field_instantiation, block, signature_of, function_view}
use Rattle.record_reader.specs.Alike.{Alike, alike_self, alike_sym, alike_trans, alike_then, alike_map, alike_after, alike_forget, map_alike, many_alike, u16_takes, pair_of_takes}
use Rattle.record_reader.specs.Bodies.{counted, pair, body_of}

-- ── each table's body ──

pub pair_takes : Alike pair (skip 4)
unfolding pair
pair_takes = pair_of_takes _

pub pair_alike : {A : Type 0} (f : ℕ → ℕ → A) → Alike (pair_of f) pair
pair_alike f = alike_trans (pair_of_takes f) (alike_sym pair_takes)

module _ (commands : Commands) where
  pub body_struct_handle : Alike (body_of commands 0x10) struct_handle
  unfolding body_of
  body_struct_handle = alike_forget struct_handle

  pub body_signature : Alike (body_of commands 0x11) (types commands)
  unfolding body_of
  body_signature = alike_forget (types commands)

  pub body_function_handle : Alike (body_of commands 0x12) function_handle
  unfolding body_of function_handle
  body_function_handle = alike_sym (pair_alike _)

  pub body_function_instantiation : Alike (body_of commands 0x13) function_instantiation
  unfolding body_of function_instantiation
  body_function_instantiation = alike_sym (pair_alike _)

  pub body_struct_definition : Alike (body_of commands 0x14) (struct_definition commands)
  unfolding body_of
  body_struct_definition = alike_forget (struct_definition commands)

  pub body_struct_def_instantiation : Alike (body_of commands 0x15) struct_def_instantiation
  unfolding body_of struct_def_instantiation
  body_struct_def_instantiation = alike_sym (pair_alike _)

  pub body_field_handle : Alike (body_of commands 0x16) field_handle
  unfolding body_of field_handle
  body_field_handle = alike_sym (pair_alike _)

  pub body_field_instantiation : Alike (body_of commands 0x17) field_instantiation
  unfolding body_of field_instantiation
  body_field_instantiation = alike_sym (pair_alike _)

  pub body_constant : Alike (body_of commands 0x18) (type commands)
  unfolding body_of
  body_constant = alike_forget (type commands)

  pub body_block : Alike (body_of commands 0x1A) block
  unfolding body_of block
  body_block = alike_sym (pair_alike _)

-- ── what is read, with no value kept ──

pub types_alike : (commands : Commands) → Alike (types commands) (counted (type_within commands 32))
unfolding types type counted
types_alike commands = alike_self (counted (type_within commands 32))

pub type_alike : (commands : Commands) → Alike (type commands) (type_within commands 32)
unfolding type
type_alike commands = alike_self (type_within commands 32)

pub struct_handle_alike : Alike struct_handle (byte_up_to 15 >>= λ _. counted (byte_up_to 1))
unfolding struct_handle ability counted struct_type_parameter
struct_handle_alike =
    alike_after (byte_up_to 15) λ a. alike_after byte λ n.
    map_alike (many_alike parameter n) _
  where
    parameter : Alike struct_type_parameter (byte_up_to 1)
    parameter = alike_map (byte_up_to 1) _

pub struct_definition_alike :
    (commands : Commands) → Alike (struct_definition commands) (skip 2 >>= λ _. byte_up_to 1 >>= λ kind. field_information commands kind)
unfolding struct_definition
struct_definition_alike commands =
    alike_then u16_takes λ h _. alike_after (byte_up_to 1) λ kind. alike_map (field_information commands kind) _

pub function_view_alike :
    (l : List Signature) → Alike (function_view l) (signature_of l >>= λ _. signature_of l >>= λ _. signature_of l >>= λ _. counted (byte_up_to 15))
unfolding function_view counted ability
function_view_alike l =
    alike_after (signature_of l) λ ps. alike_after (signature_of l) λ rs. alike_after (signature_of l) λ ls.
    alike_after byte λ n. alike_map (many n (byte_up_to 15)) _

-- ── what is known ──

-- both heads know the same types
pub same_types : (head : Head) (b : ℕ) → type_command (commands_of head) b ≡ get_or type_commands b TypeCommand.unknown
unfolding type_command
same_types Module b = refl
same_types Script b = refl

-- both heads know the same instructions
pub same_instructions : (head : Head) (b : ℕ) → instruction_form (commands_of head) b ≡ get_or instruction_forms b InstructionForm.unknown
unfolding instruction_form
same_instructions Module b = refl
same_instructions Script b = refl
