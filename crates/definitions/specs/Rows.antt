-- Document 01's table of verdicts: each row's example computes from its bytes to the number and the position that the row has.
use Rattle.std.specs.Prelude.{◌≡◌, refl, List, [], ◌∷◌, ◌++◌, map, ℕ, zero, suc, ◌^◌, length, replicate, set, take, drop}
use Rattle.status.specs.declared.StatusCode.{StatusCode}
use Rattle.status.specs.declared.StatusCode.TheVariants.{TOO_LONG, SHORT, COMMAND, ORDER, VALUE, DEPTH, BLOCK, TRAILING, AREA, EMPTY_STACK, OUT_OF_TABLE, NO_ROOM, HEIGHT, NEGATIVE_STACK_SIZE_WITHIN_BLOCK, POSITIVE_STACK_SIZE_AT_BLOCK_END, INVALID_OPERATION_IN_SCRIPT, VERIFIER_INVARIANT_VIOLATION, BORROWFIELD_TYPE_MISMATCH_ERROR, BORROWFIELD_BAD_FIELD_ERROR, BORROWLOC_REFERENCE_ERROR, BORROWGLOBAL_TYPE_MISMATCH_ERROR, BORROWGLOBAL_WITHOUT_KEY_ABILITY, CALL_TYPE_MISMATCH_ERROR, PACK_TYPE_MISMATCH_ERROR, UNPACK_TYPE_MISMATCH_ERROR, EXISTS_WITHOUT_KEY_ABILITY_OR_BAD_ARGUMENT, MOVEFROM_WITHOUT_KEY_ABILITY, MOVEFROM_TYPE_MISMATCH_ERROR, MOVETO_WITHOUT_KEY_ABILITY, MOVETO_TYPE_MISMATCH_ERROR, TYPE_MISMATCH, POP_WITHOUT_DROP_ABILITY, BR_TYPE_MISMATCH_ERROR, STLOC_TYPE_MISMATCH_ERROR, ABORT_TYPE_MISMATCH_ERROR, RET_TYPE_MISMATCH_ERROR, FREEZEREF_TYPE_MISMATCH_ERROR, COPYLOC_WITHOUT_COPY_ABILITY, READREF_WITHOUT_COPY_ABILITY, READREF_TYPE_MISMATCH_ERROR, WRITEREF_NO_MUTABLE_REFERENCE_ERROR, WRITEREF_WITHOUT_DROP_ABILITY, WRITEREF_TYPE_MISMATCH_ERROR, INTEGER_OP_TYPE_MISMATCH_ERROR, BOOLEAN_OP_TYPE_MISMATCH_ERROR, EQUALITY_OP_TYPE_MISMATCH_ERROR}
use Rattle.status.specs.declared.Position.TheVariants.{Byte, BlockStart, Instruction, None}
use Rattle.status.specs.declared.Verdict.{Verdict}
use Rattle.status.specs.declared.Verdict.TheVariants.{Accepted, Refused}
use Rattle.status.specs.Verdict.{number_of}
use Rattle.definitions.specs.SignatureToken.{Signature, Bool', U8, U64, Address, Signer, Struct, StructInstantiation, Reference, MutableReference, []ᵗ, ◌∷ᵗ◌}
use Rattle.definitions.specs.Result.{err}
use Rattle.definitions.specs.StackUsage.{height_after, require}
use Rattle.definitions.specs.Calls.{Call, read_unit, stack_usage, types, both, answer}
use Rattle.definitions.specs.Units.{listing, empty_function, block, code_of, bare, S, K, N, with_locals, holding}

-- a call of a unit with an area of that length, and the verdict due
pub record Row : Type 0 where
  pub call : Call
  pub unit : List ℕ
  pub area : ℕ
  pub verdict : Verdict

-- a row, field by field
abbrev pub row : Call → List ℕ → ℕ → Verdict → Row
row call unit area verdict = record { call = call; unit = unit; area = area; verdict = verdict }

-- reading refuses a unit at a byte
abbrev pub unread : List ℕ → StatusCode → ℕ → Row
unread unit status at = row read_unit unit 16384 (Refused status (Byte at))

-- stack usage refuses a block that starts at 0
abbrev pub unbalanced : List (List ℕ) → StatusCode → Row
unbalanced code status = row stack_usage (bare 0x01 code) 16384 (Refused status (BlockStart 0))

-- the type pass refuses the instruction at an offset
abbrev pub ill_typed : ℕ → List ℕ → StatusCode → Row
ill_typed offset unit status = row types unit 16384 (Refused status (Instruction offset))

-- the type pass refuses an instruction on a stack, top last
abbrev pub on : Signature → List ℕ → StatusCode → Row
on stack instruction status = ill_typed (length stack) (holding stack instruction) status

-- a script whose one instruction is Pack
abbrev pub pack_in_script : List ℕ
pack_in_script = bare 0x02 ((0x13 ∷ 0 ∷ 0 ∷ []) ∷ [])

-- the table, from number 0 on
abbrev pub rows : List Row
rows =
    -- 0 to 9
    row both listing 16384 Accepted
    ∷ unread (replicate 32769 0x00) TOO_LONG 0
    ∷ unread (0x01 ∷ []) SHORT 1
    ∷ unread (0x05 ∷ []) COMMAND 0
    ∷ unread (0x01 ∷ 0x1B ∷ []) ORDER 1
    ∷ unread (0x01 ∷ 0x10 ∷ 0x10 ∷ []) VALUE 2
    ∷ unread (0x01 ∷ 0x11 ∷ 0x01 ∷ replicate 32 0x07 ++ (0x01 ∷ [])) DEPTH 35
    -- with the block `1A 00 00 03 00`
    ∷ unread (set listing 14 0x03) BLOCK 11
    ∷ unread (listing ++ (0x00 ∷ [])) TRAILING 22
    ∷ row read_unit listing 65536 (Refused AREA (Byte 0))
    -- 10: type pass, Pop alone
    ∷ ill_typed 0 (bare 0x01 ((0x00 ∷ []) ∷ [])) EMPTY_STACK
    -- 11: MoveLoc 0, no locals
    ∷ ill_typed 0 (bare 0x01 ((0x0F ∷ 0 ∷ []) ∷ [])) OUT_OF_TABLE
    ∷ row both listing 2 (Refused NO_ROOM (Instruction 0))
    -- 13: LdTrue, VecUnpack(0, 2^64 - 1), LdTrue
    ∷ unbalanced ((0x0C ∷ []) ∷ (0x45 ∷ 0 ∷ 0 ∷ replicate 8 0xFF) ∷ (0x0C ∷ []) ∷ []) HEIGHT
    -- 14: Pop
    ∷ unbalanced ((0x00 ∷ []) ∷ []) NEGATIVE_STACK_SIZE_WITHIN_BLOCK
    -- 15: LdTrue
    ∷ unbalanced ((0x0C ∷ []) ∷ []) POSITIVE_STACK_SIZE_AT_BLOCK_END
    -- 16: script, Pack
    ∷ row types pack_in_script 16384 (Refused INVALID_OPERATION_IN_SCRIPT None)
    -- 17: Pop of a one-parameter struct with two arguments
    ∷ row types (holding (StructInstantiation 3 (U8 ∷ᵗ U8 ∷ᵗ []ᵗ) ∷ []) (0x00 ∷ [])) 16384 (Refused VERIFIER_INVARIANT_VIOLATION None)
    -- 18: [u8] MutBorrowField
    ∷ on (U8 ∷ []) (0x1C ∷ 0 ∷ 0 ∷ []) BORROWFIELD_TYPE_MISMATCH_ERROR
    -- 19: [&N] ImmBorrowField
    ∷ on (Reference N ∷ []) (0x1E ∷ 1 ∷ 0 ∷ []) BORROWFIELD_BAD_FIELD_ERROR
    -- 20: ImmBorrowLoc of a &u8
    ∷ ill_typed 0 (with_locals (Reference U8 ∷ []) ((0x1B ∷ 0 ∷ []) ∷ [])) BORROWLOC_REFERENCE_ERROR
    -- 21: [bool] ImmBorrowGlobal K
    ∷ on (Bool' ∷ []) (0x22 ∷ 1 ∷ 0 ∷ []) BORROWGLOBAL_TYPE_MISMATCH_ERROR
    -- 22: [address] ImmBorrowGlobal S
    ∷ on (Address ∷ []) (0x22 ∷ 0 ∷ 0 ∷ []) BORROWGLOBAL_WITHOUT_KEY_ABILITY
    -- 23: [bool] Call f(u8)
    ∷ on (Bool' ∷ []) (0x11 ∷ 0 ∷ 0 ∷ []) CALL_TYPE_MISMATCH_ERROR
    -- 24: Pack N
    ∷ on [] (0x13 ∷ 2 ∷ 0 ∷ []) PACK_TYPE_MISMATCH_ERROR
    -- 25: [u8] Unpack S
    ∷ on (U8 ∷ []) (0x15 ∷ 0 ∷ 0 ∷ []) UNPACK_TYPE_MISMATCH_ERROR
    -- 26: [bool] Exists K
    ∷ on (Bool' ∷ []) (0x37 ∷ 1 ∷ 0 ∷ []) EXISTS_WITHOUT_KEY_ABILITY_OR_BAD_ARGUMENT
    -- 27: [address] MoveFrom S
    ∷ on (Address ∷ []) (0x39 ∷ 0 ∷ 0 ∷ []) MOVEFROM_WITHOUT_KEY_ABILITY
    -- 28: [u64] MoveFrom K
    ∷ on (U64 ∷ []) (0x39 ∷ 1 ∷ 0 ∷ []) MOVEFROM_TYPE_MISMATCH_ERROR
    -- 29: [&signer, S] MoveTo S
    ∷ on (Reference Signer ∷ S ∷ []) (0x3B ∷ 0 ∷ 0 ∷ []) MOVETO_WITHOUT_KEY_ABILITY
    -- 30: [signer, K] MoveTo K
    ∷ on (Signer ∷ K ∷ []) (0x3B ∷ 1 ∷ 0 ∷ []) MOVETO_TYPE_MISMATCH_ERROR
    -- 31: [bool] VecLen u8
    ∷ on (Bool' ∷ []) (0x40 ∷ 1 ∷ 0 ∷ []) TYPE_MISMATCH
    -- 32: [K] Pop
    ∷ on (K ∷ []) (0x00 ∷ []) POP_WITHOUT_DROP_ABILITY
    -- 33: [u8] BrTrue
    ∷ on (U8 ∷ []) (0x02 ∷ 0 ∷ 0 ∷ []) BR_TYPE_MISMATCH_ERROR
    -- 34: [u8] StLoc, bool local
    ∷ ill_typed 1 (with_locals (U8 ∷ Bool' ∷ []) ((0x0F ∷ 0 ∷ []) ∷ (0x10 ∷ 1 ∷ []) ∷ [])) STLOC_TYPE_MISMATCH_ERROR
    -- 35: [u8] Abort
    ∷ on (U8 ∷ []) (0x35 ∷ []) ABORT_TYPE_MISMATCH_ERROR
    -- 36: [u8] Ret, bool due
    ∷ on (U8 ∷ []) (0x01 ∷ []) RET_TYPE_MISMATCH_ERROR
    -- 37: [&u8] FreezeRef
    ∷ on (Reference U8 ∷ []) (0x19 ∷ []) FREEZEREF_TYPE_MISMATCH_ERROR
    -- 38: CopyLoc of K
    ∷ ill_typed 0 (with_locals (K ∷ []) ((0x0E ∷ 0 ∷ []) ∷ [])) COPYLOC_WITHOUT_COPY_ABILITY
    -- 39: [&K] ReadRef
    ∷ on (Reference K ∷ []) (0x17 ∷ []) READREF_WITHOUT_COPY_ABILITY
    -- 40: [u8] ReadRef
    ∷ on (U8 ∷ []) (0x17 ∷ []) READREF_TYPE_MISMATCH_ERROR
    -- 41: [u8, &u8] WriteRef
    ∷ on (U8 ∷ Reference U8 ∷ []) (0x18 ∷ []) WRITEREF_NO_MUTABLE_REFERENCE_ERROR
    -- 42: [K, &mut K] WriteRef
    ∷ on (K ∷ MutableReference K ∷ []) (0x18 ∷ []) WRITEREF_WITHOUT_DROP_ABILITY
    -- 43: [bool, &mut u8] WriteRef
    ∷ on (Bool' ∷ MutableReference U8 ∷ []) (0x18 ∷ []) WRITEREF_TYPE_MISMATCH_ERROR
    -- 44: [bool] CastU8
    ∷ on (Bool' ∷ []) (0x08 ∷ []) INTEGER_OP_TYPE_MISMATCH_ERROR
    -- 45: [u8] Not
    ∷ on (U8 ∷ []) (0x2E ∷ []) BOOLEAN_OP_TYPE_MISMATCH_ERROR
    -- 46: [u8, bool] Eq
    ∷ on (U8 ∷ Bool' ∷ []) (0x2F ∷ []) EQUALITY_OP_TYPE_MISMATCH_ERROR
    ∷ []

-- ── the statements ──

-- the verdict that a row has
abbrev pub due : Row → Verdict
due r = r.verdict

-- what a call answers to a row's unit and area
abbrev pub answered_by : Call → Row → Verdict
answered_by call r = answer call r.unit r.area

-- what a row's own call answers
abbrev pub answered : Row → Verdict
answered r = answered_by r.call r

-- each row's call answers what is due, position and all
pub rows_compute : map answered rows ≡ map due rows
unfolding answer
rows_compute = refl

abbrev up_from : ℕ → ℕ → List ℕ
up_from n zero = []
up_from n (suc k) = n ∷ up_from (suc n) k

-- the rows are numbered 0 to 46
pub rows_in_order : map (λ r. number_of (due r)) rows ≡ up_from 0 47
rows_in_order = refl

-- rows 13 to 15
abbrev pub usage_rows : List Row
usage_rows = take 3 (drop 13 rows)

-- both asks stack usage first
pub usage_rows_by_both : map (answered_by both) usage_rows ≡ map due usage_rows
unfolding answer
usage_rows_by_both = refl

-- ── further rows ──

-- the other calls, and the order of refusals within one instruction
abbrev pub further_rows : List Row
further_rows =
    -- the longest area
    row both listing 65535 Accepted
    -- 10 and 11 where stack usage judges: Pop alone is 14, and it looks up a call's index, but no local's
    ∷ row both (bare 0x01 ((0x00 ∷ []) ∷ [])) 16384 (Refused NEGATIVE_STACK_SIZE_WITHIN_BLOCK (BlockStart 0))
    ∷ row stack_usage (bare 0x01 ((0x11 ∷ 0 ∷ 0 ∷ []) ∷ [])) 16384 (Refused OUT_OF_TABLE (BlockStart 0))
    ∷ row stack_usage (bare 0x01 ((0x0F ∷ 0 ∷ []) ∷ (0x00 ∷ []) ∷ [])) 16384 Accepted
    -- 12: an entry of one byte weighs 3, and only the type pass weighs it
    ∷ row types listing 2 (Refused NO_ROOM (Instruction 0))
    ∷ row types listing 3 Accepted
    ∷ row stack_usage listing 2 Accepted
    -- 16 by the other calls
    ∷ row stack_usage pack_in_script 16384 (Refused INVALID_OPERATION_IN_SCRIPT None)
    ∷ row both pack_in_script 16384 (Refused INVALID_OPERATION_IN_SCRIPT None)
    -- 13 is asked of the height after the pops: 2^64 - 1 is reached
    ∷ unbalanced ((0x0C ∷ []) ∷ (0x45 ∷ 0 ∷ 0 ∷ replicate 8 0xFF) ∷ []) POSITIVE_STACK_SIZE_AT_BLOCK_END
    -- VecSwap pops three: LdTrue, LdTrue, LdTrue, VecSwap
    ∷ row stack_usage (bare 0x01 (replicate 3 (0x0C ∷ []) ++ ((0x46 ∷ 0 ∷ 0 ∷ []) ∷ []))) 16384 Accepted
    -- abilities: an argument's failure comes before the lengths are compared
    ∷ on (StructInstantiation 3 (U8 ∷ᵗ Struct 9 ∷ᵗ []ᵗ) ∷ []) (0x00 ∷ []) OUT_OF_TABLE
    -- Eq asks the abilities of its top operand before it compares
    ∷ on (U8 ∷ Struct 9 ∷ []) (0x2F ∷ []) OUT_OF_TABLE
    -- VecPack looks up its signature before it pops
    ∷ on [] (0x3F ∷ 9 ∷ 0 ∷ 1 ∷ replicate 7 0) OUT_OF_TABLE
    -- the second block is judged too: 14 has its start, 10 the Pop's offset
    ∷ row stack_usage pop_last 16384 (Refused NEGATIVE_STACK_SIZE_WITHIN_BLOCK (BlockStart 2))
    ∷ row types pop_last 16384 (Refused EMPTY_STACK (Instruction 3))
    -- the type pass hands the stack from block to block
    ∷ row stack_usage pop_apart 16384 (Refused POSITIVE_STACK_SIZE_AT_BLOCK_END (BlockStart 0))
    ∷ row types pop_apart 16384 Accepted
    ∷ []
  where
    -- LdTrue, Pop; Nop, Pop
    pop_last : List ℕ
    pop_last = empty_function 0x01 ++ block 0 1 ++ block 2 3 ++ code_of ((0x0C ∷ []) ∷ (0x00 ∷ []) ∷ (0x36 ∷ []) ∷ (0x00 ∷ []) ∷ [])

    -- LdTrue; Pop
    pop_apart : List ℕ
    pop_apart = empty_function 0x01 ++ block 0 0 ++ block 1 1 ++ code_of ((0x0C ∷ []) ∷ (0x00 ∷ []) ∷ [])

pub further_rows_compute : map answered further_rows ≡ map due further_rows
unfolding answer
further_rows_compute = refl

-- pops past the height are 14 also where the pushes alone pass 2^64 - 1; no instruction of a unit pushes so many
pub negative_before_height : height_after 0 (record { pops = 1; pushes = 2 ^ 64 }) ≡ err NEGATIVE_STACK_SIZE_WITHIN_BLOCK
unfolding height_after require
negative_before_height = refl
