-- A list with some of its elements written over, and how writes one behind the other make one: what the pushes write, piece by piece.
use Rattle.std.specs.Prelude.{◌≡◌, List, [], ◌++◌, ℕ, ◌+◌, ◌-◌, ◌≤◌, length, take, drop}
use Rattle.std.proofs.Common.{ap, sym, ◌∙◌, append_assoc, append-nil, arith, length-append, length-drop, drop_of_length-le, take_all, take_at, drop_at, drop-drop, length-take-le}
use Rattle.std.proofs.Math.Seq.{drop-append_seam}
use Rattle.std.proofs.Math.Seq.{paste}
use borrow.Rule.Slice.PartMut.{put_mid}
use Rattle.definitions.specs.Places.{At}

-- the list with bs written over it from w on
abbrev pub spliced : List ℕ → ℕ → List ℕ → List ℕ
spliced a w bs = take w a ++ bs ++ drop (w + length bs) a

-- bs written over the front of a list: what a writer leaves that is lent `&mut area[w..]`
abbrev pub over : List ℕ → List ℕ → List ℕ
over bs d = bs ++ drop (length bs) d

module _ (a : List ℕ) (w : ℕ) (bs : List ℕ) where
  module _ (f : w + length bs ≤ length a) where
    front : length (take w a ++ bs) ≡ w + length bs
    front = omega (arith, length-append (take w a) bs, length-take-le w a (omega arith))

    pub length_spliced : length (spliced a w bs) ≡ length a
    length_spliced = omega (arith, length-append (take w a ++ bs) (drop (w + length bs) a), front, length-drop (w + length bs) a)

    pub take_spliced : take (w + length bs) (spliced a w bs) ≡ take w a ++ bs
    take_spliced = take_at (take w a ++ bs) (drop (w + length bs) a) (w + length bs) front

    pub drop_spliced : drop (w + length bs) (spliced a w bs) ≡ drop (w + length bs) a
    drop_spliced = drop_at (take w a ++ bs) (drop (w + length bs) a) (w + length bs) front

  module _ (cs : List ℕ) where
    -- where the longer of two writes ends
    end : w + length (bs ++ cs) ≡ w + length bs + length cs
    end = omega (arith, length-append bs cs)

    regrouped : (r : List ℕ) → take w a ++ bs ++ cs ++ r ≡ take w a ++ (bs ++ cs) ++ r
    regrouped r = ap (λ (l : List ℕ). l ++ r) (append_assoc (take w a) bs cs)

    -- one write behind another
    pub spliced_more : w + length bs ≤ length a → spliced (spliced a w bs) (w + length bs) cs ≡ spliced a w (bs ++ cs)
    spliced_more f =
        let d : drop (w + length bs + length cs) (spliced a w bs) ≡ drop (w + length bs + length cs) a =
        sym (drop-drop (length cs) (w + length bs) (spliced a w bs)) ∙ ap (drop (length cs)) (drop_spliced f) ∙ drop-drop (length cs) (w + length bs) a in
        rw (take_spliced f, d, end) (regrouped (drop (w + length bs + length cs) a))

    -- what stands behind a write already need not be written
    pub spliced_stands : At a (w + length bs) cs → spliced a w bs ≡ spliced a w (bs ++ cs)
    spliced_stands h =
        let d : drop (w + length bs + length cs) a ≡ h.rest = sym (drop-drop (length cs) (w + length bs) a) ∙ ap (drop (length cs)) h.here ∙ drop-append_seam cs h.rest in
        rw (h.here, end, d) (sym (append_assoc (take w a ++ bs) cs h.rest) ∙ regrouped h.rest)

-- what was written to the front of the part from w on
pub lent : (a : List ℕ) {d : List ℕ} (bs : List ℕ) (w : ℕ) → d ≡ over bs (take (length a - w) (drop w a)) → put_mid w (length a - w) a d ≡ spliced a w bs
lent a {d} bs w e =
    let p : take (length a - w) (drop w a) ≡ drop w a = take_all (length a - w) (drop w a) (omega (arith, length-drop w a)) in
    let z : drop (length a - w) (drop w a) ≡ [] = drop_of_length-le (drop w a) {i = length a - w} (omega (arith, length-drop w a)) in
    rw (z, append-nil d, e, p, drop-drop (length bs) w a) (sym (append_assoc (take w a) bs (drop (w + length bs) a)))

-- what was written over the part from w on, as long as that part
pub lent_part : (a : List ℕ) {d : List ℕ} (bs : List ℕ) (w : ℕ) {n : ℕ} → n ≡ length bs → d ≡ bs → put_mid w n a d ≡ spliced a w bs
lent_part a bs w e f = rw (e, f, drop-drop (length bs) w a) (sym (append_assoc (take w a) bs (drop (w + length bs) a)))

-- what was moved down from further up
pub moved : (a : List ℕ) (w from n : ℕ) → n ≡ length (take n (drop from a)) → paste a w (drop from a) n ≡ spliced a w (take n (drop from a))
moved a w from n e = ap (λ (m : ℕ). take w a ++ take n (drop from a) ++ drop (w + m) a) e
