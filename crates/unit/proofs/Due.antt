-- The command that is due: one law for each way that the function goes.
use mathlib.Core.Path.{◌≡◌}
use mathlib.Core.Bool.{true, false}
use mathlib.Core.List.{List}
use Prim.Native.Nat.{ℕ, ◌+◌, ◌≤◌, ◌<◌}
use borrow.Author.Tests.{eq-eqb, ne_eqb}
use lib.ListN.{length, get_or}
use Rattle.status.specs.declared.StatusCode.TheVariants.{SHORT, COMMAND, ORDER}
use Rattle.definitions.specs.Reading.{next, ◌>>=◌, ◌>>◌, here, need}
use Rattle.definitions.specs.Commands.{Commands, known}
use Rattle.definitions.specs.Reader.{due}
use Rattle.std.specs.Prelude.{Ok, Err}
use Rattle.record_reader.specs.ReadTo.{read_to}
use Rattle.record_reader.specs.Alike.{byte_next, byte_short}

module _ (commands : Commands) (c : ℕ) (s : List ℕ) (at : ℕ) where
  pub due_short : length s ≤ at → read_to (due commands c s at) ≡ Err (record { status = SHORT; at = length s })
  unfolding due ◌>>=◌ ◌>>◌ next here read_to
  due_short h = rw (byte_short s at h)

  module _ (h : at < length s) where
    pub due_unknown : known commands (get_or s at 0) ≡ false → read_to (due commands c s at) ≡ Err (record { status = COMMAND; at = at })
    unfolding due ◌>>=◌ ◌>>◌ next here need read_to
    due_unknown q = rw (byte_next s at h, q)

    module _ (q : known commands (get_or s at 0) ≡ true) where
      pub due_other : (get_or s at 0 ≡ c → ⊥) → read_to (due commands c s at) ≡ Err (record { status = ORDER; at = at })
      unfolding due ◌>>=◌ ◌>>◌ next here need read_to
      due_other k = rw (byte_next s at h, q, ne_eqb (get_or s at 0) c k)

      pub due_here : get_or s at 0 ≡ c → read_to (due commands c s at) ≡ Ok (at + 1)
      unfolding due ◌>>=◌ ◌>>◌ next here need read_to
      due_here k = rw (byte_next s at h, q, eq-eqb (get_or s at 0) c k)

pub ruleset due_told = (due_short, due_unknown, due_other, due_here)
