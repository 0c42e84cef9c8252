-- What was read stands where it was read: each record of a table at its place, and each instruction at its own. And the index has those
-- places.
use Rattle.std.proofs.Math.Path.{◌≡◌, ap}
use Rattle.std.proofs.Common.{sym, ◌∙◌, not-suc-le-zero, le_of_suc-le-suc, arith, length-take, get_or-take, get_or-append-add}
use Rattle.std.specs.Prelude.{Bool, ◌&&◌, ltb, length, get_or, take}
use Rattle.std.proofs.Math.Bool.{true, false}
use mathlib.Core.List.{List, [], ◌∷◌}
use Prim.Native.Nat.{ℕ, zero, suc, ◌+◌, ◌≤◌, ◌<◌}
use Rattle.std.proofs.Math.Dec.{eqb}
use Rattle.status.specs.declared.StatusCode.{StatusCode}
use Rattle.status.specs.declared.StatusCode.TheVariants.{COMMAND, ORDER}
use Rattle.definitions.specs.Reading.{Read, read, stop, Reader, next, ◌>>=◌, ◌>>◌, give, here, need, byte, opens, Placed}
use Rattle.definitions.specs.Commands.{Commands, known}
use Rattle.definitions.specs.Reader.{table_within, table, due, items}
use Rattle.definitions.specs.Places.{RecordAt, TableAt, none, more}
use Rattle.record_reader.specs.Apart.{parts, made, byte_read}
use Rattle.unit.specs.Outline.{starts, places}
use Rattle.unit.specs.Filled.{Filled}

-- ── tables ──

module _ {A : Type 0} (body : Reader A) (c : ℕ) (s : List ℕ) where
  -- one more record
  one_stands :
      (rest : Reader (List (Placed A))) → ((at : ℕ) (l : List (Placed A)) (e : ℕ) → rest s at ≡ read l e → TableAt body s (starts l) (items l)) →
      (at : ℕ) (l : List (Placed A)) (e : ℕ) →
      (byte >>= λ _. body >>= λ a. rest >>= λ r. give (record { start = at; item = a } ∷ r)) s at ≡ read l e →
      TableAt body s (starts l) (items l)
  unfolding starts items
  one_stands rest ih at l e h =
      let p = parts byte (λ _. body >>= λ a. rest >>= λ r. give (record { start = at; item = a } ∷ r)) s at h in
      let q = parts body (λ a. rest >>= λ r. give (record { start = at; item = a } ∷ r)) s p.middle p.second in
      let r = parts rest (λ r. give (record { start = at; item = q.value } ∷ r)) s q.middle q.second in
      let z = (made s r.second).0 in
      let stands : RecordAt body s at q.value = record { ends = q.middle; reads = ap (body s) (sym (byte_read s at p.first).next_at) ∙ q.first } in
      rw (← z) (more stands (ih q.middle r.value r.middle r.first))

  within_stands : (turns at : ℕ) (l : List (Placed A)) (e : ℕ) → table_within turns c body s at ≡ read l e → TableAt body s (starts l) (items l)
  unfolding table_within give ◌>>=◌ ◌>>◌ next opens here starts items
  within_stands zero at l e h = let z : [] ≡ l = cc in rw (← z) none
  within_stands (suc turns) at l e h =
      go (λ at l e h. within_stands turns at l e h) (ltb at (length s) && eqb (get_or s at 0) c) h
    where
      go : ((at : ℕ) (l : List (Placed A)) (e : ℕ) → table_within turns c body s at ≡ read l e → TableAt body s (starts l) (items l)) →
          (t : Bool) →
          (elim t as (λ (_ : Bool). Reader (List (Placed A))) [ true ↦ (here >>= λ p. byte >> (body >>= λ a. table_within turns c body >>= λ rest. give (record { start = p; item = a } ∷ rest))) | false ↦ give [] ]) s at ≡ read l e →
          TableAt body s (starts l) (items l)
      go ih true h = one_stands (table_within turns c body) ih at l e h
      go ih false h = let z : [] ≡ l = cc in rw (← z) none

  pub table_stands : (commands : Commands) (at : ℕ) (l : List (Placed A)) (e : ℕ) → table commands c body s at ≡ read l e → TableAt body s (starts l) (items l)
  unfolding table starts items
  table_stands commands at l e h = go (known commands c) h
    where
      go : (t : Bool) → (elim t as (λ (_ : Bool). Read (List (Placed A))) [ true ↦ table_within (length s) c body s at | false ↦ read [] at ]) ≡ read l e → TableAt body s (starts l) (items l)
      go true h = within_stands (length s) at l e h
      go false h = let z : [] ≡ l = cc in rw (← z) none

-- a record of a table stands at its place
pub record_at :
    {A : Type 0} {body : Reader A} {s ps : List ℕ} {l : List A} → TableAt body s ps l → (i : ℕ) → i < length l → (a : A) →
    RecordAt body s (get_or ps i 0) (get_or l i a)
record_at none i h a = absurd (not-suc-le-zero h)
record_at (more r t) zero h a = r
record_at (more r t) (suc i) h a = record_at t i (le_of_suc-le-suc h) a

-- ── where the values were forgotten ──

module _ {A : Type 0} (m : Reader (List (Placed A))) (s : List ℕ) (at : ℕ) where
  pub places_got : {ps : List ℕ} {e : ℕ} → places m s at ≡ read ps e → (l : List (Placed A)) × (m s at ≡ read l e) × (starts l ≡ ps)
  unfolding places
  places_got {ps} {e} h =
      let p = parts m (λ l. give (starts l)) s at h in
      let z = made s p.second in
      (p.value, p.first ∙ ap (read p.value) z.1, z.0)

  pub places_stopped : {w : StatusCode} {p : ℕ} → places m s at ≡ stop w p → m s at ≡ stop w p
  unfolding places ◌>>=◌ next give
  places_stopped {w} {p} h = go (m s at) h
    where
      go : (x : Read (List (Placed A))) → next x (λ l e. read (starts l) e) ≡ stop w p → x ≡ stop w p
      go (read l e) h = let z : ◌≡◌ {A = ℕ} 0 1 = cc in absurd (omega arith)
      go (stop v o) h = cc

-- ── the command that is due ──

-- the command that was due is one byte
pub due_got : (commands : Commands) (c : ℕ) (s : List ℕ) (at : ℕ) {u : Unit {0}} {e : ℕ} → due commands c s at ≡ read u e → (at < length s) × (e ≡ at + 1)
unfolding due ◌>>=◌ ◌>>◌ next here need
due_got commands c s at h =
    let p = parts byte (λ b. need (known commands b) COMMAND at >> need (eqb b c) ORDER at) s at h in
    let b = byte_read s at p.first in
    (b.within, sym (needs (known commands p.value) (eqb p.value c) p.middle p.second) ∙ b.next_at)
  where
    needs : (x y : Bool) (m : ℕ) {u : Unit {0}} {e : ℕ} → (need x COMMAND at >> need y ORDER at) s m ≡ read u e → m ≡ e
    needs true true m h = cc
    needs true false m h = let z : ◌≡◌ {A = ℕ} 0 1 = cc in absurd (omega arith)
    needs false y m h = let z : ◌≡◌ {A = ℕ} 0 1 = cc in absurd (omega arith)

-- ── the index ──

-- what an index has after it was filled
module _ {s before ps after : List ℕ} {base e : ℕ} (f : Filled s base before ps e after) (l : base ≤ length before) {i : ℕ} (h : i < length ps) where
  pub entry : get_or after (base + i) 0 ≡ get_or ps i 0
  entry =
      let n : length (take base before) ≡ base = length-take base before ∙ omega arith in
      sym (get_or-take (base + length ps) after (base + i) 0 (omega arith))
      ∙ ap (λ (xs : List ℕ). get_or xs (base + i) 0) f.placed
      ∙ rw n at (get_or-append-add (take base before) ps i 0)
