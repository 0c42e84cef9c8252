-- The loop over the instructions: what holds at its head, and what each way out of a turn says of the code.
use mathlib.Core.Path.{◌≡◌, refl, ap, ◌∙◌}
use mathlib.Core.List.{List, [], ◌∷◌, ◌++◌, append_assoc, append-nil, map-append}
use Prim.Native.Nat.{ℕ, suc, ◌+◌, ◌-◌, ◌*◌, ◌≤◌, ◌<◌}
use native.Mathlib.Omega.{arith}
use lib.ListN.{length, get_or, take, set, length-append, length-set}
use lib.Seq.{take-suc-set}
use Rattle.status.specs.declared.StatusCode.{StatusCode}
use Rattle.definitions.specs.Bytecode.{Bytecode}
use Rattle.definitions.specs.CompiledUnit.{Head}
use Rattle.definitions.specs.Reading.{read, stop, Reader, next, ◌>>=◌, give, here, u16, many, Placed, placed}
use Rattle.definitions.specs.Commands.{Commands, commands_of}
use Rattle.definitions.specs.Reader.{instruction, code}
use Rattle.record_reader.specs.Alike.{byte_next}
use Rattle.record_reader.specs.Ends.{Reaches, reads_within}
use Rattle.std.specs.Prelude.{Ok, Err}
use Rattle.record_reader.specs.declared.ReadError.{ReadError}
use Rattle.unit.specs.Outline.{starts, places}
use Rattle.unit.specs.Filled.{Room, Filled, FilledBy, table_of, CodeAnswered}
use Rattle.unit.specs.Parts.{next_assoc}
use Rattle.unit.proofs.TableLoop.{onto, onto_one, onto_none, answers_read, answers_refused, starts_size, filled_so_far}

-- ── the count ──

module _ (s : List ℕ) (at : ℕ) where
  pub u16_next : at + 2 ≤ length s → u16 s at ≡ read (get_or s at 0 + 256 * get_or s (at + 1) 0) (at + 2)
  unfolding u16 ◌>>=◌ next give
  u16_next h = let z : at + 1 + 1 ≡ at + 2 = omega arith in rw (byte_next s at (omega arith), byte_next s (at + 1) (omega arith)) (ap (read (get_or s at 0 + 256 * get_or s (at + 1) 0)) z)

-- ── a turn of the definition ──

one_more :
    {A : Type 0} (body : Reader A) (n : ℕ) (s : List ℕ) (at : ℕ) →
    many (suc n) (placed body) s at
    ≡ next (body s at) (λ a e. next (many n (placed body) s e) (λ l m. read (record { start = at; item = a } ∷ l) m))
unfolding many placed ◌>>=◌ here next give
one_more body n s at = simp next_assoc

-- ── the loop ──

-- n of the instructions were read, and their places are in the index
pub record InCode {A : Type 0} (body : Reader A) (s : List ℕ) (from base count : ℕ) (before after : List ℕ) (at n : ℕ) : Type 0 where
  pub acc : List (Placed A)
  pub whole : many count (placed body) s (from + 2) ≡ onto acc (many (count - n) (placed body) s at)
  pub placed : take (base + n) after ≡ take base before ++ starts acc
  pub size : length acc ≡ n
  pub turns : from + n ≤ at
  pub upto : n ≤ count
  pub room : Room s from base before
  pub inside : at ≤ length s
  pub long : length after ≡ length before

pub code_start :
    {A : Type 0} (body : Reader A) {s : List ℕ} {from base at : ℕ} (count : ℕ) {index : List ℕ} → Room s from base index → (at ≡ from + 2) × (at ≤ length s) →
    InCode body s from base count index index at 0
unfolding starts
code_start body {s} {from} {base} {at} count room l =
    let q : count - 0 ≡ count = omega arith in
    let r : base + 0 ≡ base = omega arith in
    record {
      acc = [];
      whole = rw (q, l.0) (onto_none (many count (placed body) s (from + 2)));
      placed = rw (r, append-nil);
      size = refl;
      turns = omega arith;
      upto = omega arith;
      room = room;
      inside = omega arith;
      long = refl;
    }

module _ {A : Type 0} {body : Reader A} {s : List ℕ} {from base count : ℕ} {before after : List ℕ} {at n : ℕ} (v : InCode body s from base count before after at n) where
  module _ (l : n < count) where
    turn :
        many (count - n) (placed body) s at
        ≡ next (body s at) (λ a e. next (many (count - (n + 1)) (placed body) s e) (λ l m. read (record { start = at; item = a } ∷ l) m))
    turn = let z : count - n ≡ suc (count - (n + 1)) = omega arith in rw z (one_more body (count - (n + 1)) s at)

    pub code_more : Reaches 1 body → (a : A) (e : ℕ) → body s at ≡ read a e → InCode body s from base count before (set after (base + n) at) e (n + 1)
    unfolding starts next
    code_more f a e r =
        let ends = reads_within f s at v.inside r in
        let p : base + (n + 1) ≡ suc (base + n) = omega arith in
        let one : Placed A = record { start = at; item = a } in
        record {
          acc = v.acc ++ (one ∷ []);
          whole = v.whole ∙ ap (onto v.acc) (turn ∙ rw r) ∙ onto_one v.acc one (many (count - (n + 1)) (placed body) s e);
          placed =
              rw (p, map-append (λ (p : Placed A). p.start) v.acc (one ∷ []), ← append_assoc (take base before))
              (take-suc-set after (base + n) at (omega (arith, v.long, v.turns, v.room.below, v.room.wide, ends.far, ends.within))
              ∙ ap (λ (l : List ℕ). l ++ (at ∷ [])) v.placed);
          size = length-append v.acc (one ∷ []) ∙ omega (arith, v.size);
          turns = omega (arith, v.turns, ends.far);
          upto = omega arith;
          room = v.room;
          inside = ends.within;
          long = length-set after (base + n) at ∙ v.long;
        }

    pub code_refused : (w : StatusCode) (p : ℕ) → body s at ≡ stop w p → many count (placed body) s (from + 2) ≡ stop w p
    unfolding onto next
    code_refused w p r = v.whole ∙ rw (turn, r)

  pub code_done : count ≤ n → many count (placed body) s (from + 2) ≡ read v.acc at
  unfolding onto next many give
  code_done h = let z : count - n ≡ 0 = omega arith in v.whole ∙ rw z (rw append-nil)

  code_filled : Filled s base before (starts v.acc) at after
  code_filled = filled_so_far v.acc v.size v.room v.placed v.turns v.inside

-- ── what the function answers ──

module _ (s : List ℕ) (from : ℕ) (commands : Commands) where
  pub code_stops : {w : StatusCode} {p : ℕ} → u16 s from ≡ stop w p → places (code commands) s from ≡ stop w p
  unfolding places code ◌>>=◌ next
  code_stops q = rw q

  module _ {count e : ℕ} (q : u16 s from ≡ read count e) where
    pub code_reads :
        {l : List (Placed Bytecode)} {d : ℕ} → many count (placed (instruction commands)) s e ≡ read l d → places (code commands) s from ≡ read (starts l) d
    unfolding places code ◌>>=◌ next give
    code_reads r = rw (q, r)

    pub code_stops_in : {w : StatusCode} {p : ℕ} → many count (placed (instruction commands)) s e ≡ stop w p → places (code commands) s from ≡ stop w p
    unfolding places code ◌>>=◌ next
    code_stops_in r = rw (q, r)

module _ (s : List ℕ) (from base : ℕ) (before after : List ℕ) where
  pub code_answers_refused :
      {w : ReadError} → ((head : Head) → places (code (commands_of head)) s from ≡ stop w.status w.at) →
      CodeAnswered s from base before after (Err w)
  code_answers_refused q =
      record {
        answers = λ head. (answers_refused s before after base (places (code (commands_of head)) s from) (q head)).0;
        fills = λ head. (answers_refused s before after base (places (code (commands_of head)) s from) (q head)).1;
      }

  pub code_answers_read :
      {at n count : ℕ} → ((head : Head) → InCode (instruction (commands_of head)) s from base count before after at n) →
      u16 s from ≡ read count (from + 2) → count ≤ n → CodeAnswered s from base before after (Ok (record { count = count; next = at }))
  code_answers_read {at} {n} {count} v q h = record { answers = λ head. (both head).0; fills = λ head. (both head).1 }
    where
      both : (head : Head) →
          (Ok (record { count = count; next = at }) ≡ table_of (places (code (commands_of head)) s from)) × FilledBy (λ ps. ps) s base before (places (code (commands_of head)) s from) after
      both head =
          answers_read s before after base (places (code (commands_of head)) s from)
          (code_reads s from (commands_of head) q (code_done (v head) h)) (starts_size (v head).acc (omega (arith, (v head).size, (v head).upto))) (code_filled (v head))
