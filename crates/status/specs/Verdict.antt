-- Document 01's table of verdicts: the number of each status, and what is printed of a verdict.
use Rattle.std.specs.Prelude.{Bool, ◌||◌, cond, ℕ, eqb}
use Rattle.status.specs.declared.StatusCode.{StatusCode}
use Rattle.status.specs.declared.StatusCode.TheVariants.{TOO_LONG, SHORT, COMMAND, ORDER, VALUE, DEPTH, BLOCK, TRAILING, AREA, EMPTY_STACK, OUT_OF_TABLE, NO_ROOM, HEIGHT, NEGATIVE_STACK_SIZE_WITHIN_BLOCK, POSITIVE_STACK_SIZE_AT_BLOCK_END, INVALID_OPERATION_IN_SCRIPT, VERIFIER_INVARIANT_VIOLATION, BORROWFIELD_TYPE_MISMATCH_ERROR, BORROWFIELD_BAD_FIELD_ERROR, BORROWLOC_REFERENCE_ERROR, BORROWGLOBAL_TYPE_MISMATCH_ERROR, BORROWGLOBAL_WITHOUT_KEY_ABILITY, CALL_TYPE_MISMATCH_ERROR, PACK_TYPE_MISMATCH_ERROR, UNPACK_TYPE_MISMATCH_ERROR, EXISTS_WITHOUT_KEY_ABILITY_OR_BAD_ARGUMENT, MOVEFROM_WITHOUT_KEY_ABILITY, MOVEFROM_TYPE_MISMATCH_ERROR, MOVETO_WITHOUT_KEY_ABILITY, MOVETO_TYPE_MISMATCH_ERROR, TYPE_MISMATCH, POP_WITHOUT_DROP_ABILITY, BR_TYPE_MISMATCH_ERROR, STLOC_TYPE_MISMATCH_ERROR, ABORT_TYPE_MISMATCH_ERROR, RET_TYPE_MISMATCH_ERROR, FREEZEREF_TYPE_MISMATCH_ERROR, COPYLOC_WITHOUT_COPY_ABILITY, READREF_WITHOUT_COPY_ABILITY, READREF_TYPE_MISMATCH_ERROR, WRITEREF_NO_MUTABLE_REFERENCE_ERROR, WRITEREF_WITHOUT_DROP_ABILITY, WRITEREF_TYPE_MISMATCH_ERROR, INTEGER_OP_TYPE_MISMATCH_ERROR, BOOLEAN_OP_TYPE_MISMATCH_ERROR, EQUALITY_OP_TYPE_MISMATCH_ERROR}
use Rattle.status.specs.declared.Position.{Position}
use Rattle.status.specs.declared.Position.TheVariants.{Byte, BlockStart, Instruction, None}
use Rattle.status.specs.declared.Verdict.{Verdict}
use Rattle.status.specs.declared.Verdict.TheVariants.{Accepted, Refused}

-- column "No" of the table
abbrev pub status_number : StatusCode → ℕ
status_number TOO_LONG = 1
status_number SHORT = 2
status_number COMMAND = 3
status_number ORDER = 4
status_number VALUE = 5
status_number DEPTH = 6
status_number BLOCK = 7
status_number TRAILING = 8
status_number AREA = 9
status_number EMPTY_STACK = 10
status_number OUT_OF_TABLE = 11
status_number NO_ROOM = 12
status_number HEIGHT = 13
status_number NEGATIVE_STACK_SIZE_WITHIN_BLOCK = 14
status_number POSITIVE_STACK_SIZE_AT_BLOCK_END = 15
status_number INVALID_OPERATION_IN_SCRIPT = 16
status_number VERIFIER_INVARIANT_VIOLATION = 17
status_number BORROWFIELD_TYPE_MISMATCH_ERROR = 18
status_number BORROWFIELD_BAD_FIELD_ERROR = 19
status_number BORROWLOC_REFERENCE_ERROR = 20
status_number BORROWGLOBAL_TYPE_MISMATCH_ERROR = 21
status_number BORROWGLOBAL_WITHOUT_KEY_ABILITY = 22
status_number CALL_TYPE_MISMATCH_ERROR = 23
status_number PACK_TYPE_MISMATCH_ERROR = 24
status_number UNPACK_TYPE_MISMATCH_ERROR = 25
status_number EXISTS_WITHOUT_KEY_ABILITY_OR_BAD_ARGUMENT = 26
status_number MOVEFROM_WITHOUT_KEY_ABILITY = 27
status_number MOVEFROM_TYPE_MISMATCH_ERROR = 28
status_number MOVETO_WITHOUT_KEY_ABILITY = 29
status_number MOVETO_TYPE_MISMATCH_ERROR = 30
status_number TYPE_MISMATCH = 31
status_number POP_WITHOUT_DROP_ABILITY = 32
status_number BR_TYPE_MISMATCH_ERROR = 33
status_number STLOC_TYPE_MISMATCH_ERROR = 34
status_number ABORT_TYPE_MISMATCH_ERROR = 35
status_number RET_TYPE_MISMATCH_ERROR = 36
status_number FREEZEREF_TYPE_MISMATCH_ERROR = 37
status_number COPYLOC_WITHOUT_COPY_ABILITY = 38
status_number READREF_WITHOUT_COPY_ABILITY = 39
status_number READREF_TYPE_MISMATCH_ERROR = 40
status_number WRITEREF_NO_MUTABLE_REFERENCE_ERROR = 41
status_number WRITEREF_WITHOUT_DROP_ABILITY = 42
status_number WRITEREF_TYPE_MISMATCH_ERROR = 43
status_number INTEGER_OP_TYPE_MISMATCH_ERROR = 44
status_number BOOLEAN_OP_TYPE_MISMATCH_ERROR = 45
status_number EQUALITY_OP_TYPE_MISMATCH_ERROR = 46

-- a verdict's number; accepted is 0
abbrev pub number_of : Verdict → ℕ
number_of Accepted = 0
number_of (Refused status position) = status_number status

-- a position's letter, as a byte of ASCII: b byte, k block start, i instruction, n none
abbrev pub position_letter : Position → ℕ
position_letter (Byte at) = 98
position_letter (BlockStart at) = 107
position_letter (Instruction at) = 105
position_letter None = 110

-- a position's number; none has 0
abbrev pub position_place : Position → ℕ
position_place (Byte at) = at
position_place (BlockStart at) = at
position_place (Instruction at) = at
position_place None = 0

-- a verdict's letter; accepted is n 0
abbrev pub letter_of : Verdict → ℕ
letter_of Accepted = position_letter None
letter_of (Refused status position) = position_letter position

-- a verdict's place; accepted is n 0
abbrev pub place_of : Verdict → ℕ
place_of Accepted = position_place None
place_of (Refused status position) = position_place position

-- INVALID_OPERATION_IN_SCRIPT and VERIFIER_INVARIANT_VIOLATION, 16 and 17: the Rust makes these two without `at_code_offset`
abbrev pub lacks_offset : ℕ → Bool
lacks_offset number = eqb number (status_number INVALID_OPERATION_IN_SCRIPT) || eqb number (status_number VERIFIER_INVARIANT_VIOLATION)

-- the refusal of one of the two passes at a block's start or an instruction: 16 and 17 are n 0
unfoldable pub refusal : StatusCode → Position → Verdict
refusal status position = Refused status (cond (lacks_offset (status_number status)) None position)
