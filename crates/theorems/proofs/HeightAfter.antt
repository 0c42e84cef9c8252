-- The height after a step that moves what its effect says, of a stack that is not too high.
use Rattle.std.specs.Prelude.{Bool, true, false, ◌≡◌, ℕ, ◌+◌, ◌-◌, ◌≤◌, ◌^◌, T, leb}
use Rattle.std.proofs.Math.Path.{refl}
use Rattle.std.proofs.Common.{arith, le→leb}
use Rattle.status.specs.declared.StatusCode.{StatusCode}
use Rattle.definitions.specs.Result.{Result, ok}
use Rattle.definitions.specs.StackUsage.{Effect, require, height_after}

holds : (b : Bool) → T b → {A : Type 0} (w : StatusCode) (r : Result A) → require b w r ≡ r
unfolding require
holds true t w r = refl
holds false t w r = elim t [ ]

pub height_is : (h h' : ℕ) (e : Effect) → e.pops ≤ h → h' + e.pops ≡ h + e.pushes → h' ≤ 65535 → height_after h e ≡ ok h'
unfolding height_after
height_is h h' e l sum small =
    let z : h - e.pops + e.pushes ≡ h' = omega arith in
    rw (z, holds (leb e.pops h) (le→leb _ _ l) _ _, holds (leb h' (2 ^ 64 - 1)) (le→leb h' (2 ^ 64 - 1) (omega arith)) _ (ok h'))
