-- What holds of the reader of a unit: a refusal has a number from 1 to 8 and names a byte of the unit or its length, and no type of a
-- unit that is read nests over 32 levels. One walk over the records of `unit_under` gives this, and that the unit reads the same in
-- another list of bytes where that agrees with it up to the instructions and the instructions read the same.
use Rattle.std.specs.Prelude.{◌≡◌, Bool, true, false, T, leb, length}
use Rattle.std.proofs.Math.Path.{refl}
use Rattle.std.proofs.Common.{subst, le_trans, le_refl, arith, leb→le}
use mathlib.Core.List.{List, [], ◌∷◌}
use Prim.Native.Nat.{ℕ, ◌≤◌}
use Rattle.status.specs.declared.StatusCode.{StatusCode}
use Rattle.status.specs.declared.StatusCode.TheVariants.{TOO_LONG, COMMAND}
use Rattle.status.specs.Verdict.{status_number}
use Rattle.definitions.specs.Bytecode.{Bytecode}
use Rattle.definitions.specs.CompiledUnit.{Head, Block}
use Rattle.definitions.specs.Reading.{Read, read, stop, Reader, next, ◌>>=◌, ◌>>◌, give, fail, here, need, u16, many, Placed, placed}
use Rattle.definitions.specs.Commands.{Commands, commands_of}
use Rattle.definitions.specs.Reader.{function_handle, function_instantiation, struct_def_instantiation, field_handle, field_instantiation, block, instruction, code, table, end, blocks_within, items, Decoded, unit_under, HeadCommand, opened, unopened, head_command, unit_after_head, unit, read_unit, compiled_unit}
use Rattle.theorems.specs.All.{All}
use Rattle.theorems.specs.Numbers.{covers_among}
use Rattle.theorems.specs.Ranges.{range_bounds}
use Rattle.theorems.specs.Bounded.{Bounded}
use Rattle.theorems.specs.Blank.{Instructions, before_instructions, before_under, before_unit}
use Rattle.theorems.specs.Reads.{reading_refusals, Answer, reads, stops, end_of, Agree, agree_within, next_same, Reads, ends, reads_bind, reads_then, reads_give, reads_fail, reads_here, end_same, reads_end, Stands}
use Rattle.theorems.proofs.ReadsBytes.{reads_byte, reads_u16, reads_table}
use Rattle.theorems.specs.ReadRecords.{reads_blocks_within, all_items}
use Rattle.theorems.proofs.ReadRecords.{reads_types, reads_type, reads_struct_handle, reads_pair, reads_struct_definition, reads_function_view, reads_code, reads_due}
use Rattle.theorems.specs.ReadUnit.{SameCode, UpTo, BoundedUnit, unit_refusals, Judged}

-- ── up to the instructions ──

module _ {s s' : List ℕ} where
  module _ {X A : Type 0} {Q : X → Type 0} {R : A → Type 0} {b : X → Reader Instructions} {f : X → Reader A} (u : (x : X) → Q x → UpTo s s' R (b x) (f x)) where
    next_up_to :
        {at : ℕ} {x x' : Read X} → Answer s at Q x → (Agree s s' at (end_of s x) → x' ≡ x) →
        Agree s s' at (end_of s (next x (λ a e. b a s e))) → SameCode s s' (next x (λ a e. b a s e)) →
        next x' (λ a e. f a s' e) ≡ next x (λ a e. f a s e)
    unfolding next
    next_up_to {at} (reads {a} {e} q l m) h g c =
        rw (h (agree_within at e (le_refl at) (ends m ((u a q).before.answers e m)).0 g)) ((u a q).same e m (agree_within e _ l (le_refl _) g) c)
    next_up_to (stops w l) h g c = rw (h g)

  module _ {X A : Type 0} {Q : X → Type 0} {R : A → Type 0} {m : Reader X} (h : Reads s Q m) where
    up_to_bind : {b : X → Reader Instructions} {f : X → Reader A} → ((x : X) → Q x → UpTo s s' R (b x) (f x)) → UpTo s s' R (m >>= b) (m >>= f)
    unfolding ◌>>=◌
    up_to_bind u = record {
      before = reads_bind h λ x q. (u x q).before;
      whole = reads_bind h λ x q. (u x q).whole;
      same = λ at l g c. next_up_to u (h.answers at l) (h.local s' at l) g c;
    }

    up_to_then : {b : Reader Instructions} {f : Reader A} → UpTo s s' R b f → UpTo s s' R (m >> b) (m >> f)
    unfolding ◌>>◌
    up_to_then u = record {
      before = reads_then h u.before;
      whole = reads_then h u.whole;
      same = λ at l g c. next_up_to (λ x q. u) (h.answers at l) (h.local s' at l) g c;
    }

  up_to_here :
      {A : Type 0} {R : A → Type 0} {b : Reader Instructions} {f : ℕ → Reader A} → ((p : ℕ) → p ≤ length s → UpTo s s' R b (f p)) →
      UpTo s s' R b (here >>= f)
  unfolding here ◌>>=◌ next
  up_to_here u = record {
    before = (u 0 (omega arith)).before;
    whole = reads_bind reads_here λ p l. (u p l).whole;
    same = λ at l g c. (u at l).same at l g c;
  }

  -- the code's count, its instructions and what goes by the unit's length alone
  up_to_code :
      {A : Type 0} {R : A → Type 0} (commands : Commands) (f : List (Placed Bytecode) → Reader A) →
      ((l : List (Placed Bytecode)) → Reads s R (f l)) → ((l : List (Placed Bytecode)) (e : ℕ) → f l s' e ≡ f l s e) →
      UpTo s s' R (u16 >>= λ n. give (record { commands = commands; count = n })) (code commands >>= f)
  unfolding code ◌>>=◌ next give
  up_to_code commands f h rest = record {
    before = reads_bind reads_u16 λ n _. reads_give _ tt;
    whole = reads_bind (reads_code commands) λ l _. h l;
    same = λ at l g c. go at (u16 s at) (u16 s' at) (reads_u16.local s' at l) g c;
  }
    where
      instructions : List ℕ → ℕ → ℕ → Read (List (Placed Bytecode))
      instructions s n e = many n (placed (instruction commands)) s e

      counted : ℕ → ℕ → Read Instructions
      counted n e = read (record { commands = commands; count = n }) e

      go : (at : ℕ) (x x' : Read ℕ) → (Agree s s' at (end_of s x) → x' ≡ x) → Agree s s' at (end_of s (next x counted)) → SameCode s s' (next x counted) → next (next x' (instructions s')) (λ l e. f l s' e) ≡ next (next x (instructions s)) (λ l e. f l s e)
      go at (read n e) x' h g c = rw (h g) (next_same c rest)
      go at (stop w p) x' h g c = rw (h g)

-- ── what goes by the unit's length alone ──

need_same : (b : Bool) (w : StatusCode) (p : ℕ) (s s' : List ℕ) (at : ℕ) → need b w p s' at ≡ need b w p s at
unfolding need
need_same true w p s s' at = refl
need_same false w p s s' at = refl

blocks_same : (n : ℕ) (bs : List (Placed Block)) (s s' : List ℕ) (at : ℕ) → blocks_within n bs s' at ≡ blocks_within n bs s at
unfolding blocks_within ◌>>◌ give
blocks_same n [] s s' at = refl
blocks_same n (b ∷ bs) s s' at = next_same (need_same _ _ _ s s' at) (λ _ e. blocks_same n bs s s' e)

after_code :
    (s s' : List ℕ) → length s' ≡ length s → (n : ℕ) (bs : List (Placed Block)) (d : Decoded) (at : ℕ) →
    (end >> (blocks_within n bs >> give d)) s' at ≡ (end >> (blocks_within n bs >> give d)) s at
unfolding ◌>>◌ give
after_code s s' l n bs d at = next_same (end_same s s' at l) (λ _ e. next_same (blocks_same n bs s s' e) (λ _ e. refl))

-- ── the unit ──

module _ {s s' : List ℕ} (lengths : length s' ≡ length s) where
  up_to_unit_under : (head : Head) → UpTo s s' BoundedUnit (before_instructions head) (unit_under head)
  unfolding before_instructions unit_under compiled_unit struct_def_instantiation function_handle function_instantiation field_handle field_instantiation block
  up_to_unit_under head =
      up_to_bind (tables 0x10 reads_struct_handle) λ _ _.
      up_to_bind (tables 0x11 (reads_types head)) λ signatures low.
      up_to_bind (tables 0x12 (reads_pair _)) λ _ _.
      up_to_bind (tables 0x13 (reads_pair _)) λ _ _.
      up_to_bind (tables 0x14 (reads_struct_definition head)) λ struct_defs low_defs.
      up_to_bind (tables 0x15 (reads_pair _)) λ _ _.
      up_to_bind (tables 0x16 (reads_pair _)) λ _ _.
      up_to_bind (tables 0x17 (reads_pair _)) λ _ _.
      up_to_bind (tables 0x18 (reads_type head)) λ constants low_constants.
      up_to_here λ p _.
      up_to_then (reads_due k 0x19) (
      up_to_bind (reads_function_view (items signatures) (all_items low)) λ view low_view.
      up_to_bind (tables 0x1A (reads_pair _)) λ blocks stand.
      up_to_then (reads_due k 0x1B)
      (up_to_code k _
      (λ l. reads_then reads_end (reads_then (reads_blocks_within _ stand) (reads_give _ (record {
        signatures = all_items low;
        struct_defs = all_items low_defs;
        constants = all_items low_constants;
        parameters = low_view.parameters;
        return = low_view.return;
        locals = low_view.locals;
      }))))
      (λ l e. after_code s s' lengths _ blocks _ e)))
    where
      k : Commands
      k = commands_of head

      tables : {A : Type 0} {Q : A → Type 0} {r : Reader A} (c : ℕ) → Reads s Q r → Reads s (All (Stands s Q)) (table k c r)
      tables c h = reads_table h k c

  pub up_to_unit : UpTo s s' BoundedUnit before_unit unit
  unfolding before_unit before_under unit unit_after_head fail
  up_to_unit = up_to_bind reads_byte λ c _. under_head (head_command c)
    where
      under_head : (h : HeadCommand) → UpTo s s' BoundedUnit (before_under h) (unit_after_head h)
      under_head (opened head) = up_to_unit_under head
      under_head unopened = record { before = reads_fail COMMAND 0 tt (omega arith); whole = reads_fail COMMAND 0 tt (omega arith); same = λ at l g c. refl }

-- ── the theorems ──

pub read_unit_judged : (s : List ℕ) → Judged s (read_unit s)
unfolding read_unit
read_unit_judged s = go (leb (length s) 32768) (λ t. leb→le (length s) 32768 t)
  where
    judged : {x : Read Decoded} → length s ≤ 32768 → Answer s 0 BoundedUnit x → Judged s x
    judged h (reads b l m) = (h, b)
    judged h (stops {w} t l) = (covers_among reading_refusals unit_refusals tt (status_number w) t, l, le_trans l h)

    go : (b : Bool) → (T b → length s ≤ 32768) → Judged s (elim b [ true ↦ unit s 0 | false ↦ stop TOO_LONG 0 ])
    go true h = judged (h tt) ((up_to_unit {s = s} {s' = s} refl).whole.answers 0 (omega arith))
    go false h = (tt, omega arith, omega arith)

-- a refusal of a unit has a number from 1 to 8, and names a byte of the unit or its length
pub read_unit_stops :
    (s : List ℕ) (w : StatusCode) (p : ℕ) → read_unit s ≡ stop w p →
    (1 ≤ status_number w) × (status_number w ≤ 8) × (p ≤ length s) × (p ≤ 32768)
read_unit_stops s w p e =
    let (t, l, m) = subst (Judged s) e (read_unit_judged s) in let (low, high) = range_bounds 1 8 (status_number w) t in (low, high, l, m)

-- no type of a unit that is read nests over 32 levels
pub read_unit_bounded : (s : List ℕ) (d : Decoded) (e : ℕ) → read_unit s ≡ read d e → Bounded (compiled_unit d)
read_unit_bounded s d e h = let k : Judged s (read d e) = subst (Judged s) h (read_unit_judged s) in k.1
