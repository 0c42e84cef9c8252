-- The four public calls and the walk of a unit, with every definition open below them: an example that names `answer` or `walk_of` on
-- its `unfolding` line computes from the unit's bytes.
use Rattle.std.specs.Prelude.{List, [], ℕ}
use Rattle.std.proofs.Math.Option.{Option, some, none}
use Rattle.status.specs.declared.Verdict.{Verdict}
use Rattle.status.specs.Verdict as Status
use Rattle.definitions.specs.Result as Results
use Rattle.definitions.specs.Result.{Result}
use Rattle.definitions.specs.AbilitySet as Sets
use Rattle.definitions.specs.AbilitySet.{AbilitySet}
use Rattle.definitions.specs.SignatureToken as Tokens
use Rattle.definitions.specs.SignatureToken.{SignatureToken}
use Rattle.definitions.specs.CompiledUnit as Tables
use Rattle.definitions.specs.CompiledUnit.{CompiledUnit, StructHandle}
use Rattle.definitions.specs.Abilities as Abilities
use Rattle.definitions.specs.Substitution as Substitution
use Rattle.definitions.specs.Reading as Reading
use Rattle.definitions.specs.Reading.{Read, read, stop}
use Rattle.definitions.specs.Commands as Commands
use Rattle.definitions.specs.Reader as Reader
use Rattle.definitions.specs.Reader.{Decoded}
use Rattle.definitions.specs.StackUsage as StackUsage
use Rattle.definitions.specs.Machine as Machine
use Rattle.definitions.specs.TypeSafety as TypeSafety
use Rattle.definitions.specs.Verify as Verify
use Rattle.definitions.specs.Verify.{Walked}
use Rattle.definitions.specs.Verdicts as Verdicts

-- reading, with the reader open
unfoldable pub decoded : List ℕ → Read Decoded
unfolding Reading.next Reading.◌>>=◌ Reading.◌>>◌ Reading.give Reading.fail Reading.here Reading.need Reading.byte Reading.u16
    Reading.number Reading.skip Reading.opens Reading.many Reading.placed Commands.one_of Commands.known Commands.type_command
    Commands.instruction_form Reader.rest_of_type Reader.type_within Reader.type Reader.types Reader.byte_up_to Reader.ability
    Reader.struct_type_parameter Reader.struct_handle Reader.pair_of Reader.function_handle Reader.function_instantiation
    Reader.field_information Reader.struct_definition Reader.struct_def_instantiation Reader.field_handle Reader.field_instantiation
    Reader.block Reader.signature_of Reader.function_view Reader.operands Reader.instruction Reader.code Reader.table_within
    Reader.table Reader.due Reader.end Reader.blocks_within Reader.items Reader.unit_under Reader.unit_after_head Reader.unit
    Reader.read_unit Reader.compiled_unit Tokens.arguments
decoded s = Reader.read_unit s

-- the abilities of a type in a function with no type parameters, with sets and look-ups open
unfoldable pub abilities_of : List StructHandle → SignatureToken → Result AbilitySet
unfolding Results.◌>>?◌ Results.at Tables.in_module Tables.struct_handle_at Tables.signature_at Tables.function_handle_at
    Tables.function_instantiation_at Tables.struct_def_at Tables.struct_instantiation_at Tables.field_handle_at
    Tables.field_instantiation_at Tables.constant_at Tables.local_at Tables.element_type_at Tables.plain_struct Tables.generic_struct Sets.union
    Sets.intersect Sets.has_ability Sets.required_by Sets.with_required_by Sets.required_by_any Sets.meet_argument Sets.meet_arguments
    Sets.polymorphic_abilities Abilities.abilities_in Abilities.abilities
abilities_of struct_handles t = Abilities.abilities_in struct_handles [] t

-- stack usage of a unit, open
unfoldable pub usage_of : CompiledUnit → Verdict
unfolding abilities_of Status.refusal StackUsage.call_effect StackUsage.field_count_at StackUsage.field_count_of_instantiation
    StackUsage.instruction_effect StackUsage.instructions_of StackUsage.require StackUsage.height_after StackUsage.height_over
    StackUsage.verify_block Verify.usage_over Verify.stack_usage
usage_of u = Verify.stack_usage u

-- the walk of a unit's blocks from the empty stack, with machine and steps open
unfoldable pub walk_unit : CompiledUnit → ℕ → Walked
unfolding abilities_of StackUsage.instructions_of Tokens.arguments Tokens.count Tokens.same Tokens.encode Tokens.outer
    Tokens.is_integer Substitution.materialize_type Substitution.instantiate Substitution.instantiate_each Substitution.inner
    Substitution.mutable_inner Substitution.is_reference Substitution.is_mutable_reference Substitution.referred
    Substitution.get_vector_element_type Substitution.reference_to Machine.◌>>=◌ Machine.done Machine.pop Machine.push Machine.look
    Machine.check Machine.pop_one Machine.pop_each Machine.push_one Machine.push_each Machine.pop_n Machine.push_n Machine.weight
    Machine.run TypeSafety.struct_type TypeSafety.type_fields_signature TypeSafety.pop_expecting TypeSafety.borrow_field
    TypeSafety.borrow_field_generic TypeSafety.borrow_loc TypeSafety.borrow_global TypeSafety.borrow_global_generic TypeSafety.call
    TypeSafety.function_call TypeSafety.function_call_generic TypeSafety.pack TypeSafety.unpack TypeSafety.needs_key TypeSafety.exists
    TypeSafety.move_from TypeSafety.move_to TypeSafety.element_is TypeSafety.borrow_vector_element TypeSafety.pop_step TypeSafety.st_loc
    TypeSafety.ret_step TypeSafety.freeze_ref TypeSafety.ld_const TypeSafety.copy_loc TypeSafety.move_loc TypeSafety.read_ref
    TypeSafety.write_ref TypeSafety.cast TypeSafety.arithmetic TypeSafety.shift TypeSafety.logical TypeSafety.negation
    TypeSafety.equality TypeSafety.comparison TypeSafety.vec_pack TypeSafety.vec_len TypeSafety.vec_push_back TypeSafety.vec_pop_back
    TypeSafety.vec_unpack TypeSafety.vec_swap TypeSafety.verify_instr Verify.walk_from Verify.walk_block Verify.walk
walk_unit u area = Verify.walk u area u.blocks []

-- document 01's four public calls
pub data Call : Type 0 where
  read_unit stack_usage types both : Call

-- what a call answers
unfoldable pub answer : Call → List ℕ → ℕ → Verdict
unfolding decoded usage_of walk_unit Status.refusal Verify.type_safety Verify.both_passes Verdicts.reading Verdicts.read_verdict
    Verdicts.stack_usage_verdict Verdicts.types_verdict Verdicts.both_verdict
answer read_unit s area = Verdicts.read_verdict s area
answer stack_usage s area = Verdicts.stack_usage_verdict s area
answer types s area = Verdicts.types_verdict s area
answer both s area = Verdicts.both_verdict s area

abbrev if_read : Read Decoded → (CompiledUnit → Walked) → Option Walked
if_read (read d e) walked = some (walked (Reader.compiled_unit d))
if_read (stop status p) walked = none

-- how the walk of a unit ends; none where it is not read
unfoldable pub walk_of : List ℕ → ℕ → Option Walked
unfolding decoded walk_unit
walk_of s area = if_read (decoded s) (λ u. walk_unit u area)
