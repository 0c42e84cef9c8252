-- Reading refuses alike in every call: rows 1 to 9 of document 01's table, and further examples of which refusal comes first where two
-- could be given, and of its byte.
use Rattle.std.specs.Prelude.{◌≡◌, refl, List, [], ◌∷◌, ◌++◌, map, ℕ, replicate, set, take, drop}
use Rattle.status.specs.declared.StatusCode.TheVariants.{SHORT, COMMAND, ORDER, VALUE, DEPTH, BLOCK, TRAILING, AREA}
use Rattle.status.specs.declared.Position.TheVariants.{Byte}
use Rattle.status.specs.declared.Verdict.TheVariants.{Accepted, Refused}
use Rattle.definitions.specs.Calls.{Call, read_unit, stack_usage, types, both, answer}
use Rattle.definitions.specs.Units.{concat, listing, empty_function, block, code_of, bare}
use Rattle.definitions.specs.Rows.{Row, row, unread, rows, answered_by, due}

-- a signature of one type, from byte 3 on: so many vectors, and then these bytes
abbrev pub vectors : ℕ → List ℕ → List ℕ
vectors n bytes = 0x01 ∷ 0x11 ∷ 0x01 ∷ replicate n 0x07 ++ bytes

-- an empty signature, and then these bytes, from byte 3 on
abbrev pub after_signature : List ℕ → List ℕ
after_signature bytes = 0x01 ∷ 0x11 ∷ 0x00 ∷ bytes

-- the listing up to its block, and then these bytes, from byte 11 on
abbrev pub after_function : List ℕ → List ℕ
after_function bytes = empty_function 0x01 ++ bytes

-- what document 01 and its order of refusals imply
abbrev pub further_reading : List Row
further_reading =
    -- 9 comes first; the longest unit is 32,768 bytes
    row read_unit (replicate 32769 0x05) 65536 (Refused AREA (Byte 0))
    ∷ unread (replicate 32768 0x05) COMMAND 0
    -- a unit that ends before its code does
    ∷ unread [] SHORT 0
    ∷ unread (after_function []) SHORT 11
    ∷ unread (after_function (0x1B ∷ 0x01 ∷ 0x00 ∷ [])) SHORT 14
    -- a number is judged when it is whole
    ∷ unread (0x01 ∷ 0x12 ∷ 0x00 ∷ []) SHORT 3
    ∷ unread (after_signature (0x19 ∷ 0xFF ∷ [])) SHORT 5
    -- each index of `19` as soon as it is
    ∷ unread (after_signature (0x19 ∷ 0xFF ∷ 0xFF ∷ [])) VALUE 4
    ∷ unread (after_signature (0x19 ∷ 0x00 ∷ 0x00 ∷ 0x00 ∷ 0x01 ∷ [])) VALUE 6
    ∷ unread (after_signature (0x19 ∷ 0x00 ∷ 0x00 ∷ 0x00 ∷ 0x00 ∷ 0x01 ∷ 0x00 ∷ [])) VALUE 8
    -- a phantom byte, a kind, an ability of the function
    ∷ unread (0x01 ∷ 0x10 ∷ 0x07 ∷ 0x01 ∷ 0x02 ∷ []) VALUE 4
    ∷ unread (0x01 ∷ 0x14 ∷ 0x00 ∷ 0x00 ∷ 0x02 ∷ []) VALUE 4
    ∷ unread (after_signature (0x19 ∷ replicate 6 0x00 ++ (0x01 ∷ 0x10 ∷ []))) VALUE 11
    -- the byte of level 33: missing, or whatever it is
    ∷ unread (vectors 32 []) SHORT 35
    ∷ unread (vectors 32 (0xFF ∷ [])) DEPTH 35
    -- `09` at level 32: handle and count first, then the argument's byte
    ∷ unread (vectors 31 (0x09 ∷ 0x00 ∷ 0x00 ∷ [])) SHORT 37
    ∷ unread (vectors 31 (0x09 ∷ 0x00 ∷ 0x00 ∷ 0x01 ∷ [])) SHORT 38
    ∷ unread (vectors 31 (0x09 ∷ 0x00 ∷ 0x00 ∷ 0x01 ∷ 0x01 ∷ [])) DEPTH 38
    -- with no argument it is a type of 32 levels, after which `19` is due
    ∷ unread (vectors 31 (0x09 ∷ 0x00 ∷ 0x00 ∷ 0x00 ∷ [])) SHORT 38
    -- an unknown head, type, record and instruction
    ∷ unread (0x00 ∷ []) COMMAND 0
    ∷ unread (0x03 ∷ []) COMMAND 0
    ∷ unread (vectors 0 (0x00 ∷ [])) COMMAND 3
    ∷ unread (vectors 31 (0x0D ∷ [])) COMMAND 34
    ∷ unread (after_signature (0x0F ∷ [])) COMMAND 3
    ∷ unread (after_signature (0x1C ∷ [])) COMMAND 3
    ∷ unread (bare 0x01 ((0x47 ∷ []) ∷ [])) COMMAND 19
    -- `14` to `17` in a script, also where the command falls; in a module that is 4
    ∷ unread (0x02 ∷ 0x14 ∷ []) COMMAND 1
    ∷ unread (0x02 ∷ 0x17 ∷ []) COMMAND 1
    ∷ unread (0x02 ∷ 0x18 ∷ 0x01 ∷ 0x14 ∷ []) COMMAND 3
    ∷ unread (0x01 ∷ 0x18 ∷ 0x01 ∷ 0x14 ∷ []) ORDER 3
    -- `1A` before `19`; a second `19`, also after a block
    ∷ unread (0x01 ∷ 0x1A ∷ []) ORDER 1
    ∷ unread (after_function (0x19 ∷ [])) ORDER 11
    ∷ unread (after_function (block 0 0 ++ (0x19 ∷ []))) ORDER 16
    -- anything after the code
    ∷ unread (listing ++ (0x1B ∷ [])) TRAILING 22
    ∷ unread (listing ++ (0xFF ∷ 0xFF ∷ [])) TRAILING 22
    -- a bad block is judged last: after a bad instruction and after what trails
    ∷ unread (set (set listing 14 0x03) 21 0x47) COMMAND 21
    ∷ unread (set listing 14 0x03 ++ (0x00 ∷ [])) TRAILING 22
    -- first over last; the count is the code's, here 0; the first bad block of three
    ∷ unread (set listing 12 0x03) BLOCK 11
    ∷ unread (after_function (block 0 0 ++ code_of [])) BLOCK 11
    ∷ unread (after_function (block 0 0 ++ block 0 1 ++ block 1 0 ++ code_of ((0x01 ∷ []) ∷ []))) BLOCK 16
    -- no other index is judged; with no block the unit is accepted
    ∷ row read_unit (any_index ++ code_of ((0x11 ∷ 0xFF ∷ 0xFF ∷ []) ∷ [])) 16384 Accepted
    ∷ []
  where
    -- each table of two indexes, and they name nothing
    any_index : List ℕ
    any_index = after_signature (concat (map (λ c. c ∷ replicate 4 0xFF) (0x12 ∷ 0x13 ∷ 0x15 ∷ 0x16 ∷ 0x17 ∷ [])) ++ 0x19 ∷ replicate 7 0x00)

-- rows 1 to 9, and these
abbrev pub reading_rows : List Row
reading_rows = take 9 (drop 1 rows) ++ further_reading

pub reading_rows_by_every_call : (call : Call) → map (answered_by call) reading_rows ≡ map due reading_rows
unfolding answer
reading_rows_by_every_call read_unit = refl
reading_rows_by_every_call stack_usage = refl
reading_rows_by_every_call types = refl
reading_rows_by_every_call both = refl
