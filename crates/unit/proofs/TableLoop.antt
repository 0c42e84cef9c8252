-- The loop over the records of a table: what holds at its head, and what each way out of a turn says of the table.
use mathlib.Core.Path.{◌≡◌, refl, sym, ap, ◌∙◌}
use mathlib.Core.Bool.{true, false, ◌&&◌}
use mathlib.Core.List.{List, [], ◌∷◌, ◌++◌, append_assoc, append-nil, map-append}
use Prim.Native.Nat.{ℕ, zero, suc, ◌+◌, ◌-◌, ◌≤◌, ◌<◌}
use native.Mathlib.Omega.{arith}
use borrow.Author.Tests.{lt-ltb, le-ltb, eq-eqb, ne_eqb}
use lib.Dec.{ltb, eqb}
use lib.ListN.{length, get_or, take, set, length-append, length-set, length-map}
use lib.Seq.{take-suc-set}
use Rattle.status.specs.declared.StatusCode.{StatusCode}
use Rattle.definitions.specs.Reading.{Read, read, stop, Reader, next, ◌>>=◌, ◌>>◌, give, here, byte, opens, Placed}
use Rattle.definitions.specs.Commands.{Commands, known}
use Rattle.definitions.specs.Reader.{table_within, table}
use Rattle.std.specs.Prelude.{Result, Ok, Err, IsErrAnd}
use Rattle.std.proofs.lemmas.Result.{err_from_is_err_and}
use Rattle.record_reader.specs.declared.ReadError.{ReadError}
use Rattle.record_reader.specs.ReadTo.{read_to}
use Rattle.record_reader.specs.Alike.{byte_next}
use Rattle.record_reader.specs.Ends.{Reaches, reads_within}
use Rattle.record_reader.specs.Bodies.{body_of}
use Rattle.unit.specs.Outline.{starts, places, record_places}
use Rattle.unit.specs.Filled.{Room, Filled, FilledBy, table_of}

-- what a function's answer says of what was read
pub got_next : {A : Type 0} (x : Read A) {e : ℕ} → Ok e ≡ read_to x → (a : A) × (x ≡ read a e)
unfolding read_to
got_next (read a m) h = (a, cc)
got_next (stop w p) h = let z : ◌≡◌ {A = ℕ} 0 1 = cc in absurd (omega arith)

pub got_refused : {A : Type 0} (x : Read A) {w : ReadError} → Err w ≡ read_to x → x ≡ stop w.status w.at
unfolding read_to
got_refused (read a m) h = let z : ◌≡◌ {A = ℕ} 0 1 = cc in absurd (omega arith)
got_refused (stop v q) h = cc

-- a refusal that goes up with another type beside it is the same refusal
pub same_refusal : {T : Type 0} {r : Result T ReadError} {w : ReadError} → IsErrAnd r (λ d. d ≡ w) → r ≡ Err w
same_refusal {T} {r} {w} h = let p = err_from_is_err_and r h in p.1 ∙ ap Err p.2

-- ── a turn of the definition ──

module _ {A : Type 0} where
  -- what is read after those that were read before
  unfoldable pub onto : List A → Read (List A) → Read (List A)
  onto acc x = next x (λ l e. read (acc ++ l) e)

  pub onto_one :
      (acc : List A) (p : A) (x : Read (List A)) →
      onto acc (next x (λ l e. read (p ∷ l) e)) ≡ onto (acc ++ (p ∷ [])) x
  unfolding onto next
  onto_one acc p (read l e) = simp append_assoc
  onto_one acc p (stop w q) = refl

  pub onto_none : (x : Read (List A)) → x ≡ onto [] x
  unfolding onto next
  onto_none (read l e) = refl
  onto_none (stop w q) = refl

module _ {A : Type 0} (body : Reader A) (c : ℕ) (s : List ℕ) (at : ℕ) where
  turn_more :
      (turns : ℕ) → at < length s → get_or s at 0 ≡ c →
      table_within (suc turns) c body s at
      ≡ next (body s (at + 1)) (λ a e. next (table_within turns c body s e) (λ l m. read (record { start = at; item = a } ∷ l) m))
  unfolding table_within ◌>>=◌ ◌>>◌ next opens here byte give
  turn_more turns h q = simp (lt-ltb at (length s) h, eq-eqb (get_or s at 0) c q) (rw (byte_next s at h))

  turn_none : (turns : ℕ) → (ltb at (length s) && eqb (get_or s at 0) c) ≡ false → table_within turns c body s at ≡ read [] at
  unfolding table_within ◌>>=◌ next opens give
  turn_none zero h = refl
  turn_none (suc turns) h = rw h

-- ── the loop ──

-- n records were read, and their places are in the index
pub record InTable {A : Type 0} (body : Reader A) (s : List ℕ) (c from base : ℕ) (before after : List ℕ) (at n : ℕ) : Type 0 where
  pub acc : List (Placed A)
  pub whole : table_within (length s) c body s from ≡ onto acc (table_within (length s - n) c body s at)
  pub placed : take (base + n) after ≡ take base before ++ starts acc
  pub size : length acc ≡ n
  pub turns : from + n ≤ at
  pub room : Room s from base before
  pub inside : at ≤ length s
  pub long : length after ≡ length before

pub table_start :
    {A : Type 0} (body : Reader A) {s : List ℕ} (c : ℕ) {from base : ℕ} {index : List ℕ} → Room s from base index →
    InTable body s c from base index index from 0
unfolding starts
table_start body {s} c {from} {base} room =
    let q : length s - 0 ≡ length s = omega arith in
    let r : base + 0 ≡ base = omega arith in
    record {
      acc = [];
      whole = rw q (onto_none (table_within (length s) c body s from));
      placed = rw (r, append-nil);
      size = refl;
      turns = omega arith;
      room = room;
      inside = room.inside;
      long = refl;
    }

module _ {A : Type 0} {body : Reader A} {s : List ℕ} {c from base : ℕ} {before after : List ℕ} {at n : ℕ} (v : InTable body s c from base before after at n) where
  module _ (l : at < length s) (q : get_or s at 0 ≡ c) where
    turn :
        table_within (length s - n) c body s at
        ≡ next (body s (at + 1)) (λ a e. next (table_within (length s - (n + 1)) c body s e) (λ l m. read (record { start = at; item = a } ∷ l) m))
    turn =
        let z : length s - n ≡ suc (length s - (n + 1)) = omega (arith, v.turns) in
        rw z (turn_more body c s at (length s - (n + 1)) l q)

    pub table_more : Reaches 1 body → (a : A) (e : ℕ) → body s (at + 1) ≡ read a e → InTable body s c from base before (set after (base + n) at) e (n + 1)
    unfolding starts next
    table_more f a e r =
        let ends = reads_within f s (at + 1) (omega arith) r in
        let p : base + (n + 1) ≡ suc (base + n) = omega arith in
        let one : Placed A = record { start = at; item = a } in
        record {
          acc = v.acc ++ (one ∷ []);
          whole = v.whole ∙ ap (onto v.acc) (turn ∙ rw r) ∙ onto_one v.acc one (table_within (length s - (n + 1)) c body s e);
          placed =
              rw (p, map-append (λ (p : Placed A). p.start) v.acc (one ∷ []), ← append_assoc (take base before))
              (take-suc-set after (base + n) at (omega (arith, v.long, v.turns, v.room.below, v.room.wide))
              ∙ ap (λ (l : List ℕ). l ++ (at ∷ [])) v.placed);
          size = length-append v.acc (one ∷ []) ∙ omega (arith, v.size);
          turns = omega (arith, v.turns, ends.far);
          room = v.room;
          inside = ends.within;
          long = length-set after (base + n) at ∙ v.long;
        }

    pub table_refused : (w : StatusCode) (p : ℕ) → body s (at + 1) ≡ stop w p → table_within (length s) c body s from ≡ stop w p
    unfolding onto next
    table_refused w p r = v.whole ∙ rw (turn, r)

  table_done : (ltb at (length s) && eqb (get_or s at 0) c) ≡ false → table_within (length s) c body s from ≡ read v.acc at
  unfolding onto next
  table_done h = v.whole ∙ ap (onto v.acc) (turn_none body c s at (length s - n) h) ∙ rw append-nil

  pub table_past : length s ≤ at → table_within (length s) c body s from ≡ read v.acc at
  table_past h = table_done (rw (le-ltb at (length s) h))

  pub table_other : at < length s → (get_or s at 0 ≡ c → ⊥) → table_within (length s) c body s from ≡ read v.acc at
  table_other h k = table_done (rw (lt-ltb at (length s) h, ne_eqb (get_or s at 0) c k))

-- ── what the function answers ──

-- what the functions that fill the index with places promise: the answer is that of what is read, and so is the index
module _ (s before after : List ℕ) (base : ℕ) (x : Read (List ℕ)) where
  pub answers_read :
      {n : ℕ} {ps : List ℕ} {e : ℕ} → x ≡ read ps e → length ps ≡ n → Filled s base before ps e after →
      (Ok (record { count = n; next = e }) ≡ table_of x) × FilledBy (λ ps. ps) s base before x after
  unfolding table_of FilledBy
  answers_read {n} {ps} {e} q k f = rw q (ap (λ (m : ℕ). Ok (record { count = m; next = e })) (sym k), f)

  pub answers_refused :
      {w : ReadError} → x ≡ stop w.status w.at → (Err w ≡ table_of x) × FilledBy (λ ps. ps) s base before x after
  unfolding table_of FilledBy
  answers_refused q = rw q (refl, tt)

-- nothing was read
pub filled_none : {s index : List ℕ} {from base : ℕ} → Room s from base index → Filled s base index [] from index
filled_none {s} {index} {from} {base} room =
    let z : base + 0 ≡ base = omega arith in
    record { placed = rw (z, append-nil); below = omega (arith, room.below); inside = room.inside }

module _ (commands : Commands) {A : Type 0} (body : Reader A) (s : List ℕ) (c at : ℕ) where
  pub table_unknown : known commands c ≡ false → table commands c body s at ≡ read [] at
  unfolding table
  table_unknown q = rw (q, table)

  pub table_known : known commands c ≡ true → table commands c body s at ≡ table_within (length s) c body s at
  unfolding table
  table_known q = rw (q, table)

module _ (commands : Commands) (s : List ℕ) (c from : ℕ) where
  pub places_unknown : known commands c ≡ false → record_places commands c s from ≡ read [] from
  unfolding record_places places ◌>>=◌ next give starts
  places_unknown q = rw (table_unknown commands (body_of commands c) s c from q)

  module _ (q : known commands c ≡ true) where
    pub places_refused :
        {w : StatusCode} {p : ℕ} → table_within (length s) c (body_of commands c) s from ≡ stop w p → record_places commands c s from ≡ stop w p
    unfolding record_places places ◌>>=◌ next
    places_refused e = rw (table_known commands (body_of commands c) s c from q, e)

    pub places_read :
        {l : List (Placed (Unit {0}))} {e : ℕ} → table_within (length s) c (body_of commands c) s from ≡ read l e →
        record_places commands c s from ≡ read (starts l) e
    unfolding record_places places ◌>>=◌ next give
    places_read e = rw (table_known commands (body_of commands c) s c from q, e)

-- the places of what was read so far are in the index
module _ {A : Type 0} (acc : List (Placed A)) {n : ℕ} (size : length acc ≡ n) where
  pub starts_size : length (starts acc) ≡ n
  unfolding starts
  starts_size = length-map acc _ ∙ size

  pub filled_so_far :
      {s : List ℕ} {from base at : ℕ} {before after : List ℕ} → Room s from base before → take (base + n) after ≡ take base before ++ starts acc →
      from + n ≤ at → at ≤ length s → Filled s base before (starts acc) at after
  filled_so_far room placed turns inside =
      record { placed = rw starts_size placed; below = rw starts_size (omega (arith, room.below)); inside = inside }

module _ {A : Type 0} {body : Reader A} {s : List ℕ} {c from base : ℕ} {before after : List ℕ} {at n : ℕ} (v : InTable body s c from base before after at n) where
  pub table_filled : Filled s base before (starts v.acc) at after
  table_filled = filled_so_far v.acc v.size v.room v.placed v.turns v.inside
