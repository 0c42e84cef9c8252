-- What is written into the index by one function after another: the places of both, in turn.
use mathlib.Core.Path.{◌≡◌, sym, ap, ◌∙◌}
use mathlib.Core.List.{List, ◌++◌, append_assoc}
use Prim.Native.Nat.{ℕ, ◌+◌, ◌≤◌}
use native.Mathlib.Omega.{arith}
use lib.ListN.{length, take, length-append}
use Rattle.definitions.specs.Reading.{Read, read, stop}
use Rattle.std.specs.Prelude.{Ok, Err}
use Rattle.record_reader.specs.declared.ReadError.{ReadError}
use Rattle.unit.specs.declared.Records.{Records}
use Rattle.unit.specs.Filled.{Room, Filled, FilledBy, table_of}

module _ {s before mid : List ℕ} {base : ℕ} {ps : List ℕ} {e : ℕ} (f : Filled s base before ps e mid) where
  -- there is room for what follows
  pub room_after : {from : ℕ} → Room s from base before → length mid ≡ length before → (b : ℕ) → b ≡ base + length ps → Room s e b mid
  room_after room long b q =
      record { below = omega (arith, f.below); inside = f.inside; small = room.small; wide = omega (arith, room.wide) }

  pub filled_then :
      {after qs : List ℕ} {d b : ℕ} → b ≡ base + length ps → Filled s b mid qs d after → Filled s base before (ps ++ qs) d after
  filled_then {after} {qs} {d} {b} q g =
      let z : base + length (ps ++ qs) ≡ b + length qs = omega (arith, length-append ps qs) in
      record {
        placed = rw z (g.placed ∙ rw q (ap (λ (l : List ℕ). l ++ qs) f.placed ∙ append_assoc (take base before) ps qs));
        below = omega (arith, g.below);
        inside = g.inside;
      }

-- and further on
pub room_later : {s index : List ℕ} {from base : ℕ} → Room s from base index → {e : ℕ} → from ≤ e → e ≤ length s → Room s e base index
room_later room l h = record { below = omega (arith, room.below); inside = h; small = room.small; wide = room.wide }

-- ── what was read ──

-- So many places were read: they are in the index, which is as long as before and has room for what follows them.
pub record Got (s before after : List ℕ) (base : ℕ) (x : Read (List ℕ)) (count e : ℕ) : Type 0 where
  pub got : List ℕ
  pub reads : x ≡ read got e
  pub counted : length got ≡ count
  pub filled : Filled s base before got e after
  pub inside : base ≤ length before
  pub long : length after ≡ length before
  pub room : Room s e (base + count) after

module _ {s before after : List ℕ} {base : ℕ} (x : Read (List ℕ)) where
  pub got_it :
      {from : ℕ} {r : Records} → Room s from base before → FilledBy (λ ps. ps) s base before x after → length after ≡ length before →
      Ok r ≡ table_of x → Got s before after base x r.count r.next
  unfolding table_of FilledBy
  got_it {from} {r} room f long k = go x f k
    where
      go : (y : Read (List ℕ)) → FilledBy (λ ps. ps) s base before y after → Ok r ≡ table_of y → Got s before after base y r.count r.next
      go (read ps d) f k =
          let q : r ≡ record { count = length ps; next = d } = cc in
          let n : length ps ≡ r.count = sym (ap (λ (r : Records). r.count) q) in
          let z : d ≡ r.next = sym (ap (λ (r : Records). r.next) q) in
          let there = rw z at f in
          record {
            got = ps;
            reads = ap (read ps) z;
            counted = n;
            filled = there;
            inside = omega (arith, room.below, room.inside, room.wide);
            long = long;
            room = room_after there room long (base + r.count) (omega arith);
          }
      go (stop w p) f k = let z : ◌≡◌ {A = ℕ} 0 1 = cc in absurd (omega arith)

pub got_stop : (x : Read (List ℕ)) {w : ReadError} → Err w ≡ table_of x → x ≡ stop w.status w.at
unfolding table_of
got_stop (read ps d) k = let z : ◌≡◌ {A = ℕ} 0 1 = cc in absurd (omega arith)
got_stop (stop v o) k = cc
