-- That no type on the stack nests over 64 levels can't be bettered: the walk of a readable unit reaches 64.
use Rattle.std.specs.Prelude.{◌≡◌, refl, List, [], ◌∷◌, ◌++◌, ℕ, zero, suc, replicate}
use Rattle.std.proofs.Math.Option.{some}
use Rattle.status.specs.declared.Verdict.TheVariants.{Accepted}
use Rattle.definitions.specs.SignatureToken.{SignatureToken, U8, Address, Vector, MutableReference, depth}
use Rattle.definitions.specs.Verify.{stands}
use Rattle.definitions.specs.Calls.{both, answer, walk_of}
use Rattle.definitions.specs.Units.{concat, as_block, signature}

-- 31 vectors over a type
abbrev pub vectors31 : List ℕ → List ℕ
vectors31 bytes = replicate 31 0x07 ++ bytes

abbrev pub deepest : List (List ℕ) → List ℕ
deepest code =
    concat (
    (0x01 ∷ [])
    -- a struct with key and one parameter
    ∷ (0x10 ∷ 8 ∷ 1 ∷ 0 ∷ [])
    -- signatures: none; the type argument, of 32 levels; the locals
    ∷ signature []
    ∷ (0x11 ∷ 1 ∷ vectors31 (0x02 ∷ []))
    ∷ signature (Address ∷ [])
    -- the struct's field: 31 vectors over the parameter
    ∷ (0x14 ∷ 0 ∷ 0 ∷ 1 ∷ 1 ∷ vectors31 (0x0C ∷ 0 ∷ 0 ∷ []))
    -- the struct, and its field, with the type argument
    ∷ (0x15 ∷ 0 ∷ 0 ∷ 1 ∷ 0 ∷ [])
    ∷ (0x16 ∷ 0 ∷ 0 ∷ 0 ∷ 0 ∷ [])
    ∷ (0x17 ∷ 0 ∷ 0 ∷ 1 ∷ 0 ∷ [])
    ∷ (0x19 ∷ 0 ∷ 0 ∷ 0 ∷ 0 ∷ 2 ∷ 0 ∷ 0 ∷ [])
    ∷ []) ++ as_block code

-- MoveLoc 0, MutBorrowGlobalGeneric 0, MutBorrowFieldGeneric 0
abbrev pub borrowed : List (List ℕ)
borrowed = (0x0F ∷ 0 ∷ []) ∷ (0x21 ∷ 0 ∷ 0 ∷ []) ∷ (0x1D ∷ 0 ∷ 0 ∷ []) ∷ []

-- so many vectors over a u8
abbrev pub vectors_of_u8 : ℕ → SignatureToken
vectors_of_u8 zero = U8
vectors_of_u8 (suc n) = Vector (vectors_of_u8 n)

abbrev pub deepest_type : SignatureToken
deepest_type = MutableReference (vectors_of_u8 62)

-- the walk leaves it, in an area of its weight: 64 bytes and 2
pub nesting_64_reached : (walk_of (deepest borrowed) 66 ≡ some (stands (deepest_type ∷ []))) × (depth deepest_type ≡ 64)
unfolding walk_of depth
nesting_64_reached = (refl, refl)

-- with a Pop after it both passes accept the unit
pub deepest_accepted : answer both (deepest (borrowed ++ ((0x00 ∷ []) ∷ []))) 66 ≡ Accepted
unfolding answer
deepest_accepted = refl
