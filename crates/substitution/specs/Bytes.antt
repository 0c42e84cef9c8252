-- Bytes stored one after the other, and bytes compared: the laws of `copy_from_slice` into a part and of `starts_with`, and of parts that follow
-- one another.
use Rattle.std.specs.Prelude.{◌≡◌, refl, List, [], ◌∷◌, ◌++◌, Bool, true, false, ℕ, suc, ◌+◌, ◌-◌, ◌≤◌, ◌<◌, length, take, drop, set, get_or, eqb}
use Rattle.std.specs.List.{starts_with}
use Rattle.std.proofs.Common.{sym, ap, ◌∙◌, append_assoc, arith, zero-add, length-drop, drop-drop, length-take-le}
use Rattle.std.proofs.lemmas.Bool.Decides.{Decides-eqb}
use Rattle.std.proofs.lemmas.List.{take_rest}
use Rattle.std.proofs.lemmas.List.Edits.{sets, sets-eq}
use Rattle.std.proofs.lemmas.Slice.Eq.{starts_is}
use Rattle.std.proofs.Math.Seq.{length-sets, drop-append_seam, drop-cons}
use Rattle.definitions.specs.Places.{At}
use Rattle.theorems.specs.AtLaws.{at_byte}
use borrow.Rule.Slice.PartMut.{put_mid}

-- ── stores ──

-- k bytes at `at` of s are there, and have room at o
pub record Fits (s : List ℕ) (at k o room : ℕ) : Type 0 where
  pub there : k ≤ length s - at
  pub free : o + k ≤ room

-- d with bs in the place of its first elements
abbrev pub over : List ℕ → List ℕ → List ℕ
over bs d = bs ++ drop (length bs) d

pub sets_append : (d : List ℕ) (w : ℕ) (bs cs : List ℕ) → sets (sets d w bs) (w + length bs) cs ≡ sets d w (bs ++ cs)
sets_append d w [] cs = ap (λ (n : ℕ). sets d n cs) (omega arith)
sets_append d w (b ∷ bs) cs =
    let z : w + suc (length bs) ≡ suc w + length bs = omega arith in
    ap (λ (n : ℕ). sets (sets (set d w b) (suc w) bs) n cs) z ∙ sets_append (set d w b) (suc w) bs cs

-- stores from the start
pub sets_over : (d bs : List ℕ) → length bs ≤ length d → sets d 0 bs ≡ over bs d
sets_over d bs l = sets-eq bs d 0 (omega arith) ∙ rw (zero-add (length bs))

-- a part that is there has its length
pub part_long : (s : List ℕ) (at k : ℕ) → k ≤ length s - at → length (take k (drop at s)) ≡ k
part_long s at k l = length-take-le k (drop at s) (omega (arith, length-drop at s))

-- `s[at..at + k]`
pub part_is : (s : List ℕ) (at k : ℕ) → take (at + k - at) (drop at s) ≡ take k (drop at s)
part_is s at k = let z : at + k - at ≡ k = omega arith in ap (λ (n : ℕ). take n (drop at s)) z

-- the part from `at` to `at + k` has room
pub part_fits : {s : List ℕ} {at k o room : ℕ} → Fits s at k o room → o + length (take (at + k - at) (drop at s)) ≤ room
part_fits {s} {at} {k} f = rw (part_is s at k) (omega (arith, part_long s at k f.there, f.free))

-- bs were put into d at w, and end at e
pub record Put (d : List ℕ) (w : ℕ) (bs : List ℕ) (d' : List ℕ) (e : ℕ) : Type 0 where
  pub reached : e ≡ w + length bs
  pub now : d' ≡ sets d w bs

-- as long as before
pub put_long : {d : List ℕ} {w : ℕ} {bs d' : List ℕ} {e : ℕ} → Put d w bs d' e → length d' ≡ length d
put_long {d} {w} {bs} k = ap length k.now ∙ length-sets d w bs

-- `d[w..e].copy_from_slice(bs)`
pub copied : {d : List ℕ} {w : ℕ} {bs : List ℕ} {e : ℕ} → e ≡ w + length bs → w + length bs ≤ length d → Put d w bs (put_mid w (e - w) d bs) e
copied {d} {w} {bs} {e} r l =
    let k : e - w ≡ length bs = omega arith in
    record {
      reached = r;
      now = rw (k, drop-drop (length bs) w d, ← append_assoc (take w d) bs (drop (w + length bs) d)) (sym (sets-eq bs d w l));
    }

-- a part from `at` to `at + k`
pub part_put : (s : List ℕ) (at k : ℕ) {d : List ℕ} {w : ℕ} {d' : List ℕ} {e : ℕ} → Put d w (take (at + k - at) (drop at s)) d' e → Put d w (take k (drop at s)) d' e
part_put s at k p = rw (part_is s at k) at p

-- a byte, as a part
byte_part : (s : List ℕ) (at : ℕ) → at < length s → take 1 (drop at s) ≡ get_or s at 0 ∷ []
byte_part s at l = rw (drop-cons s at 0 l)

-- a store of one byte
pub byte_put : (d : List ℕ) (w : ℕ) (s : List ℕ) (from : ℕ) → from < length s → Put d w (take 1 (drop from s)) (set d w (get_or s from 0)) (w + 1)
byte_put d w s from l = rw (byte_part s from l) (record { reached = refl; now = refl })

-- ── comparisons ──

-- r says whether P
abbrev pub Tells : Bool → Type 0 → Type 0
Tells true P = P
Tells false P = P → ⊥

-- `s[x..].starts_with(bs)`: whether bs stand at x
pub start_told : (s : List ℕ) (x : ℕ) (bs : List ℕ) (r : Bool) → r ≡ starts_with eqb (take (length s - x) (drop x s)) bs → Tells r (At s x bs)
start_told s x bs r e =
    let k = starts_is Decides-eqb (drop x s) bs r (rw (take_rest s x) at e) in
    go r k.0 k.1
  where
    go : (b : Bool) → (b ≡ true → drop x s ≡ bs ++ drop (length bs) (drop x s)) → ((rest : List ℕ) → drop x s ≡ bs ++ rest → b ≡ true) → Tells b (At s x bs)
    go true f g = record { rest = drop (length bs) (drop x s); here = f refl }
    go false f g = λ h. let z : false ≡ true = g h.rest h.here in absurd cc

pub at_append : {s : List ℕ} {x : ℕ} (bs cs : List ℕ) → At s x bs → At s (x + length bs) cs → At s x (bs ++ cs)
at_append {s} {x} bs cs h k = record {
  rest = k.rest;
  here = h.here
      ∙ ap (λ (l : List ℕ). bs ++ l) (sym (drop-append_seam bs h.rest) ∙ ap (drop (length bs)) (sym h.here) ∙ drop-drop (length bs) x s ∙ k.here)
      ∙ sym (append_assoc bs cs k.rest);
}

-- the same of one byte
module _ (a : List ℕ) (x : ℕ) (b : List ℕ) (y : ℕ) (l : x < length a) (m : y < length b) where
  pub byte_same : get_or a x 0 ≡ get_or b y 0 → At a x (take 1 (drop y b))
  byte_same e = rw (byte_part b y m, ← e) (record { rest = drop (suc x) a; here = drop-cons a x 0 l })

  pub byte_differs : (get_or a x 0 ≡ get_or b y 0 → ⊥) → At a x (take 1 (drop y b)) → ⊥
  byte_differs d h = d (at_byte (rw (byte_part b y m) at h))
