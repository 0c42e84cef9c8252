-- The test of the blocks, block by block, at the places that the index has.
use mathlib.Core.Path.{◌≡◌, refl, sym, ap, ◌∙◌}
use mathlib.Core.Bool.{◌&&◌}
use mathlib.Core.List.{List, ◌∷◌}
use Prim.Native.Nat.{ℕ, suc, ◌+◌, ◌≤◌, ◌<◌}
use native.Mathlib.Numerals.{add-one}
use native.Mathlib.Omega.{arith}
use borrow.Author.Tests.{lt-ltb, le-ltb, le-leb, lt-leb}
use lib.Dec.{ltb, leb}
use lib.ListN.{length, get_or, drop, length-map, drop_of_length-le, get_or-map}
use lib.Seq.{drop-cons}
use Rattle.status.specs.declared.StatusCode.TheVariants.{BLOCK}
use Rattle.definitions.specs.CompiledUnit.{Block}
use Rattle.definitions.specs.Reading.{Read, read, stop, next, ◌>>◌, give, need, Placed}
use Rattle.definitions.specs.Reader.{items, block, blocks_within}
use Rattle.std.specs.Prelude.{Ok, Err}
use Rattle.record_reader.specs.declared.ReadError.{ReadError}
use Rattle.record_reader.specs.Apart.{u16_of, pair_read}
use Rattle.unit.specs.Outline.{starts}
use Rattle.unit.specs.Filled.{BlocksAt, judged_of}
use Rattle.unit.specs.Stand.{record_at}

-- ── one block ──

abbrev no_block : Placed Block
no_block = record { start = 0; item = record { first = 0; last = 0 } }

-- the block b stands at p
pub record BlockHere (s : List ℕ) (b : Placed Block) (p : ℕ) : Type 0 where
  pub start : b.start ≡ p
  pub within : p + 4 < length s
  pub first : b.item.first ≡ u16_of s (p + 1)
  pub last : b.item.last ≡ u16_of s (p + 3)

module _ {s places : List ℕ} (b : BlocksAt s places) {i : ℕ} (l : i < length places) where
  in_list : i < length b.blocks
  unfolding starts
  in_list = omega (arith, ap length b.placed, length-map b.blocks (λ (x : Placed Block). x.start))

  pub block_here : {p : ℕ} → p ≡ get_or places i 0 → BlockHere s (get_or b.blocks i no_block) p
  unfolding starts items block
  block_here {p} q =
      let e : get_or (starts b.blocks) i 0 ≡ p = ap (λ (xs : List ℕ). get_or xs i 0) (sym b.placed) ∙ sym q in
      let place : (get_or b.blocks i no_block).start ≡ p = sym (get_or-map (λ (x : Placed Block). x.start) b.blocks i no_block) ∙ e in
      let r = record_at b.stand i (rw (length-map b.blocks (λ (x : Placed Block). x.item)) in_list) no_block.item in
      let x = pair_read (λ x y. record { first = x; last = y }) s (get_or (starts b.blocks) i 0 + 1) r.reads in
      let is : (get_or b.blocks i no_block).item ≡ record { first = u16_of s (p + 1); last = u16_of s (p + 1 + 2) } =
      sym (get_or-map (λ (x : Placed Block). x.item) b.blocks i no_block) ∙ rw e at x.is in
      let z : p + 1 + 2 ≡ p + 3 = omega arith in
      record {
        start = place;
        within = omega (arith, x.within, e);
        first = ap (λ (x : Block). x.first) is;
        last = ap (λ (x : Block). x.last) is ∙ rw z;
      }

-- ── the test ──

judged :
    (n : ℕ) (bs : List (Placed Block)) (s : List ℕ) (at : ℕ) (b : Placed Block) (p : ℕ) (x y : ℕ) → b.start ≡ p → b.item.first ≡ x → b.item.last ≡ y →
    blocks_within n (b ∷ bs) s at ≡ (need (leb x y && ltb y n) BLOCK p >> blocks_within n bs) s at
unfolding blocks_within
judged n bs s at b p x y e f g =
    ap (λ (q : ℕ). (need (leb b.item.first b.item.last && ltb b.item.last n) BLOCK q >> blocks_within n bs) s at) e
    ∙ ap (λ (q : ℕ). (need (leb q b.item.last && ltb b.item.last n) BLOCK p >> blocks_within n bs) s at) f
    ∙ ap (λ (q : ℕ). (need (leb x q && ltb q n) BLOCK p >> blocks_within n bs) s at) g

module _ (n : ℕ) (bs : List (Placed Block)) (s : List ℕ) (at : ℕ) {i : ℕ} where
  module _ (l : i < length bs) {p : ℕ} (h : BlockHere s (get_or bs i no_block) p) where
    turn :
        blocks_within n (drop i bs) s at
        ≡ (need (leb (u16_of s (p + 1)) (u16_of s (p + 3)) && ltb (u16_of s (p + 3)) n) BLOCK p >> blocks_within n (drop (i + 1) bs)) s at
    unfolding blocks_within
    turn = rw (add-one i) (ap (λ (l : List (Placed Block)). blocks_within n l s at) (drop-cons bs i no_block l) ∙ judged n (drop (suc i) bs) s at (get_or bs i no_block) p _ _ h.start h.first h.last)

    block_fits : u16_of s (p + 1) ≤ u16_of s (p + 3) → u16_of s (p + 3) < n → blocks_within n (drop i bs) s at ≡ blocks_within n (drop (i + 1) bs) s at
    unfolding ◌>>◌ next need
    block_fits a b = turn ∙ simp (le-leb _ _ a, lt-ltb _ _ b)

    block_falls : u16_of s (p + 3) < u16_of s (p + 1) → blocks_within n (drop i bs) s at ≡ stop BLOCK p
    unfolding ◌>>◌ next need
    block_falls a = turn ∙ simp (lt-leb _ _ a)

    block_past : u16_of s (p + 1) ≤ u16_of s (p + 3) → n ≤ u16_of s (p + 3) → blocks_within n (drop i bs) s at ≡ stop BLOCK p
    unfolding ◌>>◌ next need
    block_past a b = turn ∙ simp (le-leb _ _ a, le-ltb _ _ b)

  blocks_done : length bs ≤ i → blocks_within n (drop i bs) s at ≡ read tt at
  unfolding blocks_within give
  blocks_done h = rw (drop_of_length-le bs h)

-- ── the loop ──

-- the blocks before i passed the test
abbrev pub Tested : (s places : List ℕ) → ℕ → ℕ → Type 0
Tested s places code i = (b : BlocksAt s places) (at : ℕ) → blocks_within code b.blocks s at ≡ blocks_within code (drop i b.blocks) s at

-- the test refuses block i, or goes on behind it, or is over
module _ {s places : List ℕ} (code i : ℕ) (v : Tested s places code i) where
  module _ (l : i < length places) {p : ℕ} (q : p ≡ get_or places i 0) (b : BlocksAt s places) (at : ℕ) where
    pub tested_falls : u16_of s (p + 3) < u16_of s (p + 1) → blocks_within code b.blocks s at ≡ stop BLOCK p
    tested_falls h = v b at ∙ block_falls code b.blocks s at (in_list b l) (block_here b l q) h

    module _ (h : u16_of s (p + 1) ≤ u16_of s (p + 3)) where
      pub tested_past : code ≤ u16_of s (p + 3) → blocks_within code b.blocks s at ≡ stop BLOCK p
      tested_past k = v b at ∙ block_past code b.blocks s at (in_list b l) (block_here b l q) h k

      pub tested_more : u16_of s (p + 3) < code → blocks_within code b.blocks s at ≡ blocks_within code (drop (i + 1) b.blocks) s at
      tested_more k = v b at ∙ block_fits code b.blocks s at (in_list b l) (block_here b l q) h k

  pub tested_all : length places ≤ i → (b : BlocksAt s places) (at : ℕ) → blocks_within code b.blocks s at ≡ read tt at
  unfolding starts
  tested_all h b at =
      v b at ∙ blocks_done code b.blocks s at {i = i} (omega (arith, ap length b.placed, length-map b.blocks (λ (x : Placed Block). x.start)))

pub judged_stop : {x : Read (Unit {0})} {w : ReadError} → x ≡ stop w.status w.at → Err w ≡ judged_of x
unfolding judged_of
judged_stop q = rw q

pub judged_read : {x : Read (Unit {0})} {u : Unit {0}} {e : ℕ} → x ≡ read u e → Ok tt ≡ judged_of x
unfolding judged_of
judged_read q = rw q

pub got_judged : {x : Read (Unit {0})} → Ok tt ≡ judged_of x → (u : Unit {0}) × (e : ℕ) × (x ≡ read u e)
unfolding judged_of
got_judged {x} h = go x h
  where
    go : (y : Read (Unit {0})) → Ok tt ≡ judged_of y → (u : Unit {0}) × (e : ℕ) × (y ≡ read u e)
    go (read u e) h = (u, e, refl)
    go (stop w p) h = let z : ◌≡◌ {A = ℕ} 0 1 = cc in absurd (omega arith)

pub stop_judged : {x : Read (Unit {0})} {w : ReadError} → Err w ≡ judged_of x → x ≡ stop w.status w.at
unfolding judged_of
stop_judged {x} {w} h = go x h
  where
    go : (y : Read (Unit {0})) → Err w ≡ judged_of y → y ≡ stop w.status w.at
    go (read u e) h = let z : ◌≡◌ {A = ℕ} 0 1 = cc in absurd (omega arith)
    go (stop v o) h = cc
