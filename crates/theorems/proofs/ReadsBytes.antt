-- The laws of the reader forms that read bytes, and may so meet the end of the unit: they refuse with SHORT, whose number a refusal of the
-- reading may have.
use Rattle.std.specs.Prelude.{Bool, T, ltb, leb, get_or}
use Rattle.std.proofs.Math.Path.{refl}
use Rattle.std.proofs.Common.{le_refl, arith}
use Rattle.std.proofs.Math.Bool.{true, false}
use mathlib.Core.List.{List, []}
use Prim.Native.Nat.{ℕ, zero, suc, ◌+◌, ◌≤◌}
use Rattle.std.proofs.Math.Dec.{leb→le, ltb→lt}
use Rattle.std.proofs.Math.ListN.{length}
use Rattle.status.specs.declared.StatusCode.TheVariants.{SHORT}
use Rattle.definitions.specs.Reading.{Read, read, stop, Reader, byte, u16, number, skip, Placed}
use Rattle.definitions.specs.Commands.{Commands, known}
use Rattle.definitions.specs.Reader.{table_within, table}
use Rattle.theorems.specs.All.{All, none, more}
use Rattle.theorems.specs.Reads.{Answer, reads, stops, Any, Reads, skip_same, byte_same, first_only, reads_bind, reads_then, reads_give, reads_here, reads_opens, reads_if, Stands}

module _ {s : List ℕ} where
  -- up to a byte within the unit, or SHORT
  within : {A : Type 0} {at : ℕ} (a : A) (e : ℕ) (b : Bool) → at ≤ e → (T b → e ≤ length s) → Answer s at {A = A} Any (elim b [ true ↦ read a e | false ↦ stop SHORT (length s) ])
  within a e true h k = reads tt h (k tt)
  within a e false h k = stops tt (le_refl (length s))

  pub reads_byte : Reads s Any byte
  unfolding byte
  reads_byte =
      first_only (λ at h. within (get_or s at 0) (at + 1) (ltb at (length s)) (omega arith) (λ t. omega (arith, ltb→lt at (length s) t)))
      (λ s' at l e. byte_same s s' at l e)

  pub reads_skip : (n : ℕ) → Reads s Any (skip n)
  unfolding skip
  reads_skip n =
      first_only (λ at h. within tt (at + n) (leb (at + n) (length s)) (omega arith) (λ t. leb→le (at + n) (length s) t))
      (λ s' at l e. skip_same s s' at l n)

  -- ── the forms made of them ──

  pub reads_u16 : Reads s Any u16
  unfolding u16
  reads_u16 = reads_bind reads_byte λ lo _. reads_bind reads_byte λ hi _. reads_give _ tt

  pub reads_number : (n : ℕ) → Reads s Any (number n)
  unfolding number
  reads_number zero = reads_give _ tt
  reads_number (suc n) = reads_bind reads_byte λ lo _. reads_bind (reads_number n) λ hi _. reads_give _ tt

module _ {s : List ℕ} {A : Type 0} {Q : A → Type 0} {r : Reader A} (h : Reads s Q r) where
  reads_table_within : (turns c : ℕ) → Reads s (All (Stands s Q)) (table_within turns c r)
  unfolding table_within
  reads_table_within zero c = reads_give _ none
  reads_table_within (suc turns) c =
      reads_bind (reads_opens c) λ opened _.
      reads_if opened
      (reads_bind reads_here λ p l. reads_then reads_byte (reads_bind h λ a q. reads_bind (reads_table_within turns c) λ rest qs. reads_give _ (more (record { start = l; item = q }) qs)))
      (reads_give _ none)

  pub reads_table : (commands : Commands) (c : ℕ) → Reads s (All (Stands s Q)) (table commands c r)
  unfolding table
  reads_table commands c = go (known commands c)
    where
      go : (b : Bool) → Reads s (All (Stands s Q)) (λ s at. elim b as (λ _. Read (List (Placed A))) [ true ↦ table_within (length s) c r s at | false ↦ read [] at ])
      go true = record {
        answers = λ at l. (reads_table_within (length s) c).answers at l;
        local = λ s' at l g. rw g.lengths ((reads_table_within (length s) c).local s' at l g);
      }
      go false = record { answers = λ at l. reads none (le_refl at) l; local = λ s' at l g. refl }
