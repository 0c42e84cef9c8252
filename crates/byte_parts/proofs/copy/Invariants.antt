-- The first i bytes are copied.
use Rattle.std.specs.Prelude.{◌≡◌, ◌≤◌, length, take}
use Rattle.byte_parts.proofs.copy.Given as goal

abbrev pub invariant-loop-i : goal.invariant-loop-i
invariant-loop-i l = (length l.out ≡ length l.bytes) × (l.i ≤ length l.bytes) × (take l.i l.out ≡ take l.i l.bytes)
