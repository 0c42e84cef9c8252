-- Laws of what stands at a position (definitions, Places): the parts of what stands there, and its bytes.
use Rattle.std.specs.Prelude.{◌≡◌, refl, List, [], ◌∷◌, ◌++◌, ℕ, ◌+◌, ◌-◌, ◌≤◌, ◌<◌, length, take, drop, get_or}
use Rattle.std.proofs.Common.{sym, ap, ◌∙◌, append_assoc, add-zero, arith, length-append, length-drop, drop-drop, get_or-drop}
use Rattle.std.proofs.Math.Seq.{drop-append_seam, take-append_seam}
use Rattle.definitions.specs.Places.{At}

module _ {s : List ℕ} {at : ℕ} where
  pub at_room : {bs : List ℕ} → At s at bs → length bs ≤ length s - at
  at_room {bs} h = omega (arith, length-drop at s, simp length-append at (ap length h.here))

  pub at_back : (bs cs : List ℕ) → At s at (bs ++ cs) → At s (at + length bs) cs
  at_back bs cs h = record {
    rest = h.rest;
    here = sym (drop-drop (length bs) at s) ∙ ap (drop (length bs)) (h.here ∙ append_assoc bs cs h.rest) ∙ drop-append_seam bs (cs ++ h.rest);
  }

  pub at_front : (bs cs : List ℕ) → At s at (bs ++ cs) → At s at bs
  at_front bs cs h = record { rest = cs ++ h.rest; here = h.here ∙ append_assoc bs cs h.rest }

  pub at_byte : {b : ℕ} {bs : List ℕ} → At s at (b ∷ bs) → get_or s at 0 ≡ b
  at_byte h = rw (add-zero at) at (sym (get_or-drop at s 0 0)) ∙ ap (λ (l : List ℕ). get_or l 0 0) h.here

  pub at_less : {b : ℕ} {bs : List ℕ} → At s at (b ∷ bs) → at < length s
  at_less h = omega (arith, at_room h)

  pub at_next : {b : ℕ} {bs : List ℕ} → At s at (b ∷ bs) → At s (at + 1) bs
  at_next {b} {bs} h = at_back (b ∷ []) bs h

  pub at_part : (bs : List ℕ) → At s at bs → take (length bs) (drop at s) ≡ bs
  at_part bs h = rw (h.here, take-append_seam)

-- what a list begins with stands at its start
pub at_start : (bs rest : List ℕ) → At (bs ++ rest) 0 bs
at_start bs rest = record { rest = rest; here = refl }
