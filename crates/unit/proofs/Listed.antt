-- Blocks and code, as the function reads them: one law for each way that it goes.
use mathlib.Core.Path.{◌≡◌, refl, sym, ap, ◌∙◌}
use mathlib.Core.Bool.{Bool, true, false, ◌&&◌}
use mathlib.Core.List.{List, [], ◌∷◌, ◌++◌}
use Prim.Native.Nat.{ℕ, ◌+◌, ◌≤◌}
use native.Mathlib.Omega.{arith}
use borrow.Author.Tests.{eq-eqb, ne_eqb}
use lib.Dec.{leb, ltb}
use lib.ListN.{length, take, length-append, length-map}
use Rattle.std.proofs.Common.{length-take}
use Rattle.std.proofs.Math.Seq.{drop-append_seam, take-append_seam}
use Rattle.std.proofs.lemmas.List.{drop-take, take-take}
use Rattle.status.specs.declared.StatusCode.TheVariants.{BLOCK, TRAILING}
use Rattle.definitions.specs.Bytecode.{Bytecode}
use Rattle.definitions.specs.CompiledUnit.{Block}
use Rattle.definitions.specs.Reading.{read, stop, Reader, next, ◌>>=◌, ◌>>◌, give, need, Placed}
use Rattle.definitions.specs.Commands.{Commands}
use Rattle.definitions.specs.Reader.{table, due, code, end, blocks_within, block}
use Rattle.record_reader.specs.BodyLaws.{body_block}
use Rattle.std.specs.Prelude.{Ok, Err, drop}
use Rattle.record_reader.specs.declared.ReadError.{ReadError}
use Rattle.unit.specs.Outline.{starts, places, record_places, in_listing, unit_listing}
use Rattle.unit.specs.Filled.{Room, Filled, FilledBy, listing_of, BlocksAt}
use Rattle.unit.specs.Parts.{named}
use Rattle.unit.proofs.Filling.{Got, filled_then, room_later}
use Rattle.unit.specs.Stand.{due_got, table_stands, places_got, places_stopped}

-- a table of the definition, from the places that were read
pub record TableGot {A : Type 0} (m : Reader (List (Placed A))) (s : List ℕ) (at : ℕ) (ps : List ℕ) (e : ℕ) : Type 0 where
  pub list : List (Placed A)
  pub reads : m s at ≡ read list e
  pub places_are : starts list ≡ ps

pub table_got : {A : Type 0} (m : Reader (List (Placed A))) (s : List ℕ) (at : ℕ) {ps : List ℕ} {e : ℕ} → places m s at ≡ read ps e → TableGot m s at ps e
table_got m s at h = let g = places_got m s at h in record { list = g.0; reads = g.1; places_are = g.2 }

-- the test of the blocks reads nothing
blocks_end : (n : ℕ) (bs : List (Placed Block)) (s : List ℕ) (at : ℕ) {u : Unit {0}} {e : ℕ} → blocks_within n bs s at ≡ read u e → at ≡ e
unfolding blocks_within give ◌>>◌ need next
blocks_end n [] s at h = cc
blocks_end n (b ∷ bs) s at {u} {e} h =
    go (λ h. blocks_end n bs s at h) (leb b.item.first b.item.last && ltb b.item.last n) h
  where
    go : (blocks_within n bs s at ≡ read u e → at ≡ e) → (t : Bool) → (need t BLOCK b.start >> blocks_within n bs) s at ≡ read u e → at ≡ e
    go ih true h = ih h
    go ih false h = let z : ◌≡◌ {A = ℕ} 0 1 = cc in absurd (omega arith)

-- the first of the places that were written into the index
slice :
    {s before qs after : List ℕ} {base e : ℕ} → Filled s base before qs e after → base ≤ length before → (ps rs : List ℕ) → qs ≡ ps ++ rs →
    take (length ps) (drop base after) ≡ ps
slice {s} {before} {qs} {after} {base} {e} f l ps rs q =
    let n : length (take base before) ≡ base = length-take base before ∙ omega arith in
    let all : take (length qs) (drop base after) ≡ qs =
    sym (drop-take base (length qs) after) ∙ ap (drop base) f.placed ∙ rw n at (drop-append_seam (take base before) qs) in
    let m : length ps ≤ length qs = omega (arith, ap length q, length-append ps rs) in
    sym (take-take (length ps) (length qs) (drop base after) m) ∙ ap (take (length ps)) (all ∙ q) ∙ take-append_seam ps rs

module _ (commands : Commands) (s : List ℕ) (from : ℕ) where
  -- the answer and the index after a refusal
  abbrev ListingRefused : ℕ → (before after : List ℕ) → ReadError → Type 0
  ListingRefused base before after w =
      (Err w ≡ listing_of (unit_listing commands s from)) × FilledBy in_listing s base before (unit_listing commands s from) after

  pub listing_refused_1 :
      {w : ReadError} (base : ℕ) (before after : List ℕ) → record_places commands 0x1A s from ≡ stop w.status w.at → ListingRefused base before after w
  unfolding unit_listing ◌>>=◌ next listing_of FilledBy
  listing_refused_1 base before after q =
      rw (places_stopped (table commands 0x1A block) s from (sym (named commands s 0x1A (body_block commands) from) ∙ q)) (refl, tt)

  -- the blocks were read
  module _ {before m1 : List ℕ} {base n1 e1 : ℕ} (g1 : Got s before m1 base (record_places commands 0x1A s from) n1 e1) where
    blocks_got : TableGot (table commands 0x1A block) s from g1.got e1
    blocks_got = table_got (table commands 0x1A block) s from (sym (named commands s 0x1A (body_block commands) from) ∙ g1.reads)

    pub listing_refused_2 : {w : ReadError} (after : List ℕ) → due commands 0x1B s e1 ≡ stop w.status w.at → ListingRefused base before after w
    unfolding unit_listing ◌>>=◌ ◌>>◌ next listing_of FilledBy
    listing_refused_2 after q = rw (blocks_got.reads, q) (refl, tt)

    module _ {u : Unit {0}} {e2 : ℕ} (d : due commands 0x1B s e1 ≡ read u e2) where
      pub listing_refused_3 : {w : ReadError} (after : List ℕ) → places (code commands) s e2 ≡ stop w.status w.at → ListingRefused base before after w
      unfolding unit_listing ◌>>=◌ ◌>>◌ next listing_of FilledBy
      listing_refused_3 after q = rw (blocks_got.reads, d, places_stopped (code commands) s e2 q) (refl, tt)

      -- there is room for the code
      pub code_room : Room s e2 (base + n1) m1
      code_room = let x = due_got commands 0x1B s e1 d in room_later g1.room (omega arith) (omega arith)

      -- the code was read
      module _ {m2 : List ℕ} {n2 e3 : ℕ} (g2 : Got s m1 m2 (base + n1) (places (code commands) s e2) n2 e3) where
        code_got : TableGot (code commands) s e2 g2.got e3
        code_got = table_got (code commands) s e2 g2.reads

        pub listing_trailing : (after : List ℕ) → (e3 ≡ length s → ⊥) → ListingRefused base before after (record { status = TRAILING; at = e3 })
        unfolding unit_listing ◌>>=◌ ◌>>◌ next end listing_of FilledBy
        listing_trailing after k = rw (blocks_got.reads, d, code_got.reads, ne_eqb e3 (length s) k, end) (refl, tt)

        module _ (last : e3 ≡ length s) where
          filled : Filled s base before (g1.got ++ g2.got) e3 m2
          filled = filled_then g1.filled (omega (arith, g1.counted)) g2.filled

          -- the blocks stand at the places that the index has
          pub blocks_at : BlocksAt s (take n1 (drop base m2))
          blocks_at = record {
            blocks = blocks_got.list;
            placed = rw (← g1.counted) (slice filled g1.inside g1.got g2.got refl) ∙ sym blocks_got.places_are;
            stand = table_stands block 0x1A s commands from blocks_got.list e1 blocks_got.reads;
          }

          size : n2 ≡ length code_got.list
          unfolding starts
          size = sym g2.counted ∙ sym (sym (length-map code_got.list (λ (p : Placed Bytecode). p.start)) ∙ ap length code_got.places_are)

          pub listing_refused_4 :
              {w : ReadError} (after : List ℕ) → blocks_within n2 blocks_at.blocks s e3 ≡ stop w.status w.at → ListingRefused base before after w
          unfolding unit_listing ◌>>=◌ ◌>>◌ next end blocks_at listing_of FilledBy
          listing_refused_4 after q = rw (blocks_got.reads, d, code_got.reads, eq-eqb e3 (length s) last, end, ← size, q) (refl, tt)

          module _ {v : Unit {0}} {e : ℕ} (q : blocks_within n2 blocks_at.blocks s e3 ≡ read v e) where
            listing_read : unit_listing commands s from ≡ read (record { blocks = blocks_got.list; code = code_got.list }) e
            unfolding unit_listing ◌>>=◌ ◌>>◌ next end give blocks_at
            listing_read = rw (blocks_got.reads, d, code_got.reads, eq-eqb e3 (length s) last, end, ← size, q)

            pub listing_answers :
                (Ok (record { blocks = n1; code = n2 }) ≡ listing_of (unit_listing commands s from))
                × FilledBy in_listing s base before (unit_listing commands s from) m2
            unfolding listing_of FilledBy in_listing
            listing_answers =
                let o = blocks_end n2 blocks_at.blocks s e3 q in
                let x = blocks_got.places_are in
                let y = code_got.places_are in
                let k1 = g1.counted in
                let k2 = g2.counted in
                rw (listing_read, x, y) (cc, rw o at filled)
