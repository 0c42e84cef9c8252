-- The height after an effect, by the two tests that the code makes.
use mathlib.Core.Path.{◌≡◌}
use Prim.Native.Nat.{ℕ, ◌+◌, ◌-◌, ◌^◌, ◌<◌, ◌≤◌}
use native.Mathlib.Omega.{arith}
use borrow.Author.Tests.{le-leb, lt-leb}
use Rattle.status.specs.declared.StatusCode.TheVariants.{HEIGHT, NEGATIVE_STACK_SIZE_WITHIN_BLOCK}
use Rattle.definitions.specs.Result.{ok, err}
use Rattle.definitions.specs.StackUsage.{require, height_after}

module _ (h p q : ℕ) where
  -- pops past the height
  pub sinks : h < p → err NEGATIVE_STACK_SIZE_WITHIN_BLOCK ≡ height_after h (record { pops = p; pushes = q })
  unfolding height_after require
  sinks l = rw (lt-leb p h)

  -- pushes past what a u64 holds
  pub overflows : p ≤ h → 2 ^ 64 - 1 - (h - p) < q → err HEIGHT ≡ height_after h (record { pops = p; pushes = q })
  unfolding height_after require
  overflows l k = let m : 2 ^ 64 - 1 < (h - p) + q = omega arith in rw (le-leb p h, lt-leb _ (2 ^ 64 - 1) m)

  pub moves : p ≤ h → (h - p) + q ≤ 2 ^ 64 - 1 → ok ((h - p) + q) ≡ height_after h (record { pops = p; pushes = q })
  unfolding height_after require
  moves l m = rw (le-leb p h, le-leb _ (2 ^ 64 - 1) m)

pub ruleset heights = (sinks, overflows, moves)
