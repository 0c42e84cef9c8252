-- The units of the examples, as bytes: tables, then one block over the whole code, then the code, given as a list of instructions.
use mathlib.Core.List.{List, [], ◌∷◌, ◌++◌, map, foldr}
use Rattle.std.specs.Prelude.{ℕ, suc, ◌-◌, length, replicate}
use Rattle.definitions.specs.SignatureToken.{SignatureToken, Signature, Bool', U8, U64, Struct, encode}

-- one list after another
abbrev pub concat : List (List ℕ) → List ℕ
concat l = foldr ◌++◌ [] l

-- document 01's listing: LdTrue, Pop, Ret
abbrev pub listing : List ℕ
listing =
    0x01 ∷ 0x11 ∷ 0x00 ∷ 0x19 ∷ 0x00 ∷ 0x00 ∷ 0x00 ∷ 0x00 ∷ 0x00 ∷ 0x00 ∷ 0x00 ∷ 0x1A ∷ 0x00 ∷ 0x00 ∷ 0x02 ∷ 0x00 ∷ 0x1B ∷ 0x03 ∷ 0x00
    ∷ 0x0C ∷ 0x00 ∷ 0x01 ∷ []

-- the listing's first 11 bytes, under either head: an empty signature, and a function of no parameters, no returns and no locals
abbrev pub empty_function : ℕ → List ℕ
empty_function head = head ∷ 0x11 ∷ 0x00 ∷ 0x19 ∷ replicate 7 0x00

-- a block record, with numbers under 256
abbrev pub block : ℕ → ℕ → List ℕ
block first last = 0x1A ∷ first ∷ 0 ∷ last ∷ 0 ∷ []

-- a code record, of fewer than 256 instructions
abbrev pub code_of : List (List ℕ) → List ℕ
code_of code = 0x1B ∷ length code ∷ 0 ∷ concat code

-- one block over the whole code
abbrev pub as_block : List (List ℕ) → List ℕ
as_block code = block 0 (length code - 1) ++ code_of code

-- the listing with another head and other code
abbrev pub bare : ℕ → List (List ℕ) → List ℕ
bare head code = empty_function head ++ as_block code

-- ── the tables of the type pass's examples ──

-- document 01's structs, by their handles
abbrev pub S : SignatureToken
S = Struct 0

-- K has key alone
abbrev pub K : SignatureToken
K = Struct 1

-- N is native
abbrev pub N : SignatureToken
N = Struct 2

-- a signature record
abbrev pub signature : Signature → List ℕ
signature ts = 0x11 ∷ length ts ∷ concat (map encode ts)

-- a module whose function has these locals
abbrev pub tables : Signature → List (List ℕ)
tables locals =
    (0x01 ∷ [])
    -- struct handles: S has abilities 7, K has 8, N has 7; the last has a parameter
    ∷ (0x10 ∷ 7 ∷ 0 ∷ [])
    ∷ (0x10 ∷ 8 ∷ 0 ∷ [])
    ∷ (0x10 ∷ 7 ∷ 0 ∷ [])
    ∷ (0x10 ∷ 7 ∷ 1 ∷ 0 ∷ [])
    -- signatures: none, u8, bool, u64, the locals
    ∷ signature []
    ∷ signature (U8 ∷ [])
    ∷ signature (Bool' ∷ [])
    ∷ signature (U64 ∷ [])
    ∷ signature locals
    -- function handle: f(u8)
    ∷ (0x12 ∷ 1 ∷ 0 ∷ 0 ∷ 0 ∷ [])
    -- struct definitions: S and K declare a u8, N is native
    ∷ (0x14 ∷ 0 ∷ 0 ∷ 1 ∷ 1 ∷ 0x02 ∷ [])
    ∷ (0x14 ∷ 1 ∷ 0 ∷ 1 ∷ 1 ∷ 0x02 ∷ [])
    ∷ (0x14 ∷ 2 ∷ 0 ∷ 0 ∷ [])
    -- field handles: the first field of S, and of N
    ∷ (0x16 ∷ 0 ∷ 0 ∷ 0 ∷ 0 ∷ [])
    ∷ (0x16 ∷ 2 ∷ 0 ∷ 0 ∷ 0 ∷ [])
    -- function: no parameters, a bool due, the locals
    ∷ (0x19 ∷ 0 ∷ 0 ∷ 2 ∷ 0 ∷ 4 ∷ 0 ∷ 0 ∷ [])
    ∷ []

-- the tables with those locals, and this code
abbrev pub with_locals : Signature → List (List ℕ) → List ℕ
with_locals locals code = concat (tables locals) ++ as_block code

-- MoveLoc of each local, from the first
abbrev pub moves : ℕ → Signature → List (List ℕ)
moves i [] = []
moves i (t ∷ ts) = (0x0F ∷ i ∷ []) ∷ moves (suc i) ts

-- an instruction on a stack, top last: it stands at the stack's length
abbrev pub holding : Signature → List ℕ → List ℕ
holding stack instruction = with_locals stack (moves 0 stack ++ (instruction ∷ []))
