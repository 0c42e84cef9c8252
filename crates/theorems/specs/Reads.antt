-- What holds of a reader wherever it begins within a unit: it ends not before it began and not past the unit's length, with a value
-- that has a property; or it refuses with a status from 2 to 8, about a byte of the unit or its length. And it is local: what it
-- answers rests on the unit's length and on the bytes from its beginning to its end, with the one byte after them at which a table
-- sees that it is over. One law for each form of Reading.antt, so that a record's law spells the record.
-- Those of the forms that read bytes, and may so meet the end of the unit, are in ReadsBytes.antt of proofs/.
use Rattle.std.specs.Prelude.{◌≡◌, Bool, T, ltb, leb, eqb, get_or}
use Rattle.std.proofs.Math.Path.{refl, ap}
use Rattle.std.proofs.Common.{◌∙◌, le_trans, le_refl, arith}
use Rattle.std.proofs.Math.Bool.{true, false}
use mathlib.Core.List.{List, [], ◌∷◌}
use Prim.Native.Nat.{ℕ, zero, suc, ◌+◌, ◌≤◌}
use Rattle.std.proofs.Math.ListN.{length}
use Rattle.status.specs.declared.StatusCode.{StatusCode}
use Rattle.status.specs.declared.StatusCode.TheVariants.{SHORT, TRAILING}
use Rattle.status.specs.Verdict.{status_number}
use Rattle.definitions.specs.Reading.{Read, read, stop, Reader, next, ◌>>=◌, ◌>>◌, give, fail, here, need, byte, skip, opens, many, Placed, placed}
use Rattle.definitions.specs.Reader.{end}
use Rattle.theorems.specs.Numbers.{Range, ◌to◌, among}
use Rattle.theorems.specs.All.{All, none, more}

-- ── what a reader answers ──

-- SHORT to TRAILING
abbrev pub reading_refusals : List Range
reading_refusals = 2 to 8 ∷ []

abbrev pub refuses_reading : StatusCode → Bool
refuses_reading w = among reading_refusals (status_number w)

-- an answer from `at` on
pub data Answer (s : List ℕ) (at : ℕ) {A : Type 0} (Q : A → Type 0) : Read A → Type 0 where
  reads : {a : A} {e : ℕ} → Q a → at ≤ e → e ≤ length s → Answer s at Q (read a e)
  stops : {w : StatusCode} {p : ℕ} → T (refuses_reading w) → p ≤ length s → Answer s at Q (stop w p)

-- where an answer ends; a refusal may rest on all of the unit
abbrev pub end_of : List ℕ → {A : Type 0} → Read A → ℕ
end_of s (read a e) = e
end_of s (stop w p) = length s

-- two units of one length have the same bytes from lo to hi
pub record Agree (s s' : List ℕ) (lo hi : ℕ) : Type 0 where
  pub lengths : length s' ≡ length s
  pub same : (i : ℕ) → lo ≤ i → i ≤ hi → get_or s' i 0 ≡ get_or s i 0

pub record Reads (s : List ℕ) {A : Type 0} (Q : A → Type 0) (r : Reader A) : Type 0 where
  pub answers : (at : ℕ) → at ≤ length s → Answer s at Q (r s at)
  pub local : (s' : List ℕ) (at : ℕ) → at ≤ length s → Agree s s' at (end_of s (r s at)) → r s' at ≡ r s at

-- of a value of which nothing is asked
abbrev pub Any : {A : Type 0} → A → Type 0
Any a = Unit {0}

-- what goes by the unit's length, and at most by the byte at hand
module _ (s s' : List ℕ) (at : ℕ) (l : length s' ≡ length s) where
  pub skip_same : (n : ℕ) → skip n s' at ≡ skip n s at
  unfolding skip
  skip_same n = ap (λ (m : ℕ). elim (leb (at + n) m) as (λ _. Read (Unit {0})) [ true ↦ read tt (at + n) | false ↦ stop SHORT m ]) l

  pub end_same : end s' at ≡ end s at
  unfolding end
  end_same = rw (l, end)

  pub byte_same : get_or s' at 0 ≡ get_or s at 0 → byte s' at ≡ byte s at
  unfolding byte
  byte_same e = ap (λ (n : ℕ). byte_of n (get_or s' at 0)) l ∙ ap (byte_of (length s)) e
    where
      byte_of : ℕ → ℕ → Read ℕ
      byte_of n b = elim (ltb at n) [ true ↦ read b (at + 1) | false ↦ stop SHORT n ]

-- the same answer, and the same from there on
pub next_same :
    {A B : Type 0} {x x' : Read A} {f f' : A → ℕ → Read B} → x' ≡ x → ((a : A) (e : ℕ) → f' a e ≡ f a e) → next x' f' ≡ next x f
unfolding next
next_same {x} {x'} {f} {f'} h k = rw h (go x)
  where
    go : (y : Read _) → next y f' ≡ next y f
    go (read a e) = k a e
    go (stop w p) = refl

module _ {s : List ℕ} where
  pub agree_within : {s' : List ℕ} {lo hi : ℕ} (lo' hi' : ℕ) → lo ≤ lo' → hi' ≤ hi → Agree s s' lo hi → Agree s s' lo' hi'
  agree_within lo' hi' h k g = record { lengths = g.lengths; same = λ i l m. g.same i (omega arith) (omega arith) }

  module _ {A : Type 0} {Q : A → Type 0} where
    -- from an earlier place
    answer_from : {at e : ℕ} {x : Read A} → at ≤ e → Answer s e Q x → Answer s at Q x
    answer_from h (reads q l m) = reads q (le_trans h l) m
    answer_from h (stops w l) = stops w l

    pub ends : {at : ℕ} {x : Read A} → at ≤ length s → Answer s at Q x → (at ≤ end_of s x) × (end_of s x ≤ length s)
    ends h (reads q l m) = (l, m)
    ends h (stops w l) = (h, omega arith)

    pub answer_to : {at : ℕ} {x : Read A} {R : A → Type 0} → ((a : A) → Q a → R a) → Answer s at Q x → Answer s at R x
    answer_to f (reads {a} q l m) = reads (f a q) l m
    answer_to f (stops w l) = stops w l

    -- a reader that looks at no byte but its first
    pub first_only :
        {r : Reader A} → ((at : ℕ) → at ≤ length s → Answer s at Q (r s at)) →
        ((s' : List ℕ) (at : ℕ) → length s' ≡ length s → get_or s' at 0 ≡ get_or s at 0 → r s' at ≡ r s at) → Reads s Q r
    first_only answers local = record {
      answers = answers;
      local = λ s' at h g. local s' at g.lengths (g.same at (omega arith) (ends h (answers at h)).0);
    }

    -- a weaker property
    pub reads_to : {r : Reader A} {R : A → Type 0} → ((a : A) → Q a → R a) → Reads s Q r → Reads s R r
    reads_to f h = record { answers = λ at l. answer_to f (h.answers at l); local = h.local }

  module _ {A B : Type 0} {Q : A → Type 0} {R : B → Type 0} {f : A → Reader B} (hf : (a : A) → Q a → Reads s R (f a)) where
    next_answers : {at : ℕ} {x : Read A} → Answer s at Q x → Answer s at R (next x (λ a e. f a s e))
    unfolding next
    next_answers (reads {a} {e} q l m) = answer_from l ((hf a q).answers e m)
    next_answers (stops w l) = stops w l

    next_local :
        {s' : List ℕ} {at : ℕ} {x x' : Read A} → Answer s at Q x → (Agree s s' at (end_of s x) → x' ≡ x) →
        Agree s s' at (end_of s (next x (λ a e. f a s e))) → next x' (λ a e. f a s' e) ≡ next x (λ a e. f a s e)
    unfolding next
    next_local {s'} {at} (reads {a} {e} q l m) hx g =
        let k = ends m ((hf a q).answers e m) in
        rw (hx (agree_within at e (omega arith) k.0 g)) ((hf a q).local s' e m (agree_within e _ l (omega arith) g))
    next_local (stops w l) hx g = rw (hx g)

  -- ── one reader after another ──

  pub reads_bind :
      {A B : Type 0} {Q : A → Type 0} {R : B → Type 0} {m : Reader A} {f : A → Reader B} → Reads s Q m →
      ((a : A) → Q a → Reads s R (f a)) → Reads s R (m >>= f)
  unfolding ◌>>=◌
  reads_bind hm hf = record {
    answers = λ at h. next_answers hf (hm.answers at h);
    local = λ s' at h g. next_local hf (hm.answers at h) (hm.local s' at h) g;
  }

  pub reads_then :
      {A B : Type 0} {Q : A → Type 0} {R : B → Type 0} {m : Reader A} {n : Reader B} → Reads s Q m → Reads s R n → Reads s R (m >> n)
  unfolding ◌>>◌
  reads_then hm hn = record {
    answers = λ at h. next_answers (λ a q. hn) (hm.answers at h);
    local = λ s' at h g. next_local (λ a q. hn) (hm.answers at h) (hm.local s' at h) g;
  }

  -- ── the forms that look at the unit ──

  pub reads_give : {A : Type 0} {Q : A → Type 0} (a : A) → Q a → Reads s Q (give a)
  unfolding give
  reads_give a q = first_only (λ at h. reads q (le_refl at) h) (λ s' at l e. refl)

  pub reads_fail : {A : Type 0} {Q : A → Type 0} (w : StatusCode) (p : ℕ) → T (refuses_reading w) → p ≤ length s → Reads s Q (fail w p)
  unfolding fail
  reads_fail w p t h = first_only (λ at k. stops t h) (λ s' at l e. refl)

  pub reads_here : Reads s (λ (p : ℕ). p ≤ length s) here
  unfolding here
  reads_here = first_only (λ at h. reads h (le_refl at) h) (λ s' at l e. refl)

  pub reads_need : (c : Bool) (w : StatusCode) (p : ℕ) → T (refuses_reading w) → p ≤ length s → Reads s (λ _. T c) (need c w p)
  unfolding need
  reads_need true w p t h = first_only (λ at k. reads tt (le_refl at) k) (λ s' at l e. refl)
  reads_need false w p t h = first_only (λ at k. stops t h) (λ s' at l e. refl)

  pub reads_opens : (c : ℕ) → Reads s Any (opens c)
  unfolding opens
  reads_opens c = first_only (λ at h. reads tt (le_refl at) h) (λ s' at l e. rw (l, e))

  pub reads_end : Reads s Any end
  unfolding end
  reads_end = first_only (λ at h. answers at h (eqb at (length s))) (λ s' at l e. end_same s s' at l)
    where
      answers : (at : ℕ) → at ≤ length s → (b : Bool) → Answer s at {A = Unit {0}} Any (elim b [ true ↦ read tt at | false ↦ stop TRAILING at ])
      answers at h true = reads tt (le_refl at) h
      answers at h false = stops tt h

  -- ── the forms made of them ──

  pub reads_many : {A : Type 0} {Q : A → Type 0} {r : Reader A} (n : ℕ) → Reads s Q r → Reads s (All Q) (many n r)
  unfolding many
  reads_many zero h = reads_give _ none
  reads_many (suc n) h = reads_bind h λ a q. reads_bind (reads_many n h) λ rest qs. reads_give _ (more q qs)

  pub reads_if : {A : Type 0} {Q : A → Type 0} {x y : Reader A} (b : Bool) → Reads s Q x → Reads s Q y → Reads s Q (elim b [ true ↦ x | false ↦ y ])
  reads_if true hx hy = hx
  reads_if false hx hy = hy

-- what stands at a byte of the unit
pub record Stands (s : List ℕ) {A : Type 0} (Q : A → Type 0) (p : Placed A) : Type 0 where
  pub start : p.start ≤ length s
  pub item : Q p.item

module _ {s : List ℕ} {A : Type 0} {Q : A → Type 0} {r : Reader A} (h : Reads s Q r) where
  pub reads_placed : Reads s (Stands s Q) (placed r)
  unfolding placed
  reads_placed = reads_bind reads_here λ p l. reads_bind h λ a q. reads_give _ (record { start = l; item = q })
