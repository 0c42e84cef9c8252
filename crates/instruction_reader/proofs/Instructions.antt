-- An instruction: what follows an opcode is as many bytes as the table says.
use mathlib.Core.Path.{◌≡◌, refl}
use mathlib.Core.Bool.{Bool, true, false}
use mathlib.Core.List.{List}
use Prim.Native.Nat.{ℕ, ◌+◌, ◌≤◌, ◌<◌}
use native.Mathlib.Nat.{add-zero}
use native.Mathlib.Omega.{arith}
use Rattle.std.proofs.lemmas.List.Folds.{list_all_at}
use lib.ListN.{length, get_or, get_or-eq_default}
use Rattle.status.specs.declared.StatusCode.TheVariants.{SHORT, COMMAND}
use Rattle.definitions.specs.CompiledUnit.{Head}
use Rattle.definitions.specs.Reading.{next, ◌>>=◌, ◌>>◌, give, fail, here, skip}
use Rattle.definitions.specs.Commands.{InstructionForm, plain, unkept, local, commands_of, instruction_forms}
use Rattle.definitions.specs.Reader.{operands, instruction}
use Rattle.std.specs.Prelude.{Err}
use Rattle.record_reader.specs.ReadTo.{read_to}
use Rattle.record_reader.specs.Alike.{byte_next, byte_short, skip_next, alike_map, map_alike, byte_takes, u16_takes, number_takes, takes_then}
use Rattle.instruction_reader.specs.Widths.{width_of, operand_width}
use Rattle.record_reader.specs.BodyLaws.{same_instructions}

abbrev known : InstructionForm → Bool
known (plain i) = true
known (unkept n i) = true
known (local f) = true
known (InstructionForm.index f) = true
known (InstructionForm.counted f) = true
known InstructionForm.unknown = false

-- after the opcode there is a byte or the end
operands_taken :
    (p : ℕ) (form : InstructionForm) (s : List ℕ) (e : ℕ) → known form ≡ true → e ≤ length s →
    read_to (operands p form s e) ≡ read_to (skip (width_of form) s e)
unfolding operands width_of give ◌>>◌ ◌>>=◌ read_to
operands_taken p (plain i) s e t h = rw (skip_next s e 0 (omega arith), add-zero e)
operands_taken p (unkept n i) s e t h = (alike_map (skip n) (λ _. i)).alike s e
operands_taken p (local f) s e t h = (map_alike byte_takes f).alike s e
operands_taken p (InstructionForm.index f) s e t h = (map_alike u16_takes f).alike s e
operands_taken p (InstructionForm.counted f) s e t h = (takes_then 2 8 u16_takes (λ x. map_alike (number_takes 7) (f x))).alike s e
operands_taken p InstructionForm.unknown s e t h = cc

-- an opcode below 71 is known, by one computed test of all forms
all_known : (b : ℕ) → b < 71 → known (get_or instruction_forms b InstructionForm.unknown) ≡ true
all_known b h = go (known (get_or instruction_forms b InstructionForm.unknown)) refl
  where
    go : (t : Bool) → known (get_or instruction_forms b InstructionForm.unknown) ≡ t → known (get_or instruction_forms b InstructionForm.unknown) ≡ true
    go true e = e
    go false e = let x = list_all_at known instruction_forms b InstructionForm.unknown h e in cc

module _ (head : Head) (s : List ℕ) (at' : ℕ) where
  pub instruction_short : length s ≤ at' → read_to (instruction (commands_of head) s at') ≡ Err (record { status = SHORT; at = length s })
  unfolding instruction ◌>>=◌ next here read_to
  instruction_short h = rw (byte_short s at' h)

  module _ (within : at' < length s) where
    pub instruction_unknown : 71 ≤ get_or s at' 0 → read_to (instruction (commands_of head) s at') ≡ Err (record { status = COMMAND; at = at' })
    unfolding instruction ◌>>=◌ next here operands fail read_to
    instruction_unknown h =
        rw (byte_next s at' within, same_instructions head (get_or s at' 0), get_or-eq_default instruction_forms InstructionForm.unknown h)

    pub instruction_taken :
        get_or s at' 0 < 71 → read_to (instruction (commands_of head) s at') ≡ read_to (skip (operand_width (get_or s at' 0)) s (at' + 1))
    unfolding instruction ◌>>=◌ next here operand_width
    instruction_taken h =
        rw (byte_next s at' within, same_instructions head (get_or s at' 0))
        (operands_taken at' (get_or instruction_forms (get_or s at' 0) InstructionForm.unknown) s (at' + 1) (all_known (get_or s at' 0) h) (omega arith))

pub ruleset decoding = (instruction_short, instruction_unknown, instruction_taken)
