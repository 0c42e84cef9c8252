-- What the look-up of a struct handle may answer, and what it may read, where the table has the entry and where it has not.
use Rattle.std.specs.Prelude.{◌≡◌, ℕ, ◌+◌, ◌<◌, get_or, Ok, Err}
use Rattle.std.proofs.Math.Path.{refl}
use Rattle.std.proofs.Common.{◌∙◌, arith}
use Rattle.std.proofs.Math.ListN.{length}
use Rattle.status.specs.declared.StatusCode.{StatusCode}
use Rattle.definitions.specs.CompiledUnit as defs
use Rattle.file_format.specs.AbilitySet.{set_of}
use Rattle.binary_views.specs.Handles.{handle_bytes}
use Rattle.unit_tables.specs.declared.UnitView.{UnitView}
use Rattle.unit_tables.specs.Answers.{ResultIs}
use Rattle.unit_tables.specs.Compiled.{unit_read, compiled}
use Rattle.unit_tables.specs.Tables.{Fits, EntryIs, PastIs, table_fits, struct_handles_in, found, refused_past}
use Rattle.ability_views.specs.Answers.{HandleIs}

pub handles_fit : (unit : UnitView) → Fits unit.index.now unit.view.struct_handles
handles_fit unit = table_fits (struct_handles_in (unit_read unit))

module _ (unit : UnitView) (i : ℕ) where
  pub handle_past : {v : StatusCode} → PastIs unit.view.struct_handles i v → ResultIs (HandleIs unit.bytes.now) (defs.struct_handle_at (compiled unit) i) (Err v)
  unfolding defs.struct_handle_at
  handle_past w = record { is = rw (refused_past (struct_handles_in (unit_read unit)) w) refl }

  module _ {p : ℕ} (w : EntryIs unit.index.now unit.view.struct_handles i p) where
    pub handle_within : p + 2 < length unit.bytes.now
    handle_within = omega (arith, (handle_bytes (found (struct_handles_in (unit_read unit)) w).stands).within)

    pub handle_here :
        {n : ℕ} → n ≡ get_or unit.bytes.now (p + 2) 0 →
        ResultIs (HandleIs unit.bytes.now) (defs.struct_handle_at (compiled unit) i) (Ok (record { abilities = set_of (get_or unit.bytes.now (p + 1) 0); parameters = p + 3; count = n }))
    unfolding defs.struct_handle_at
    handle_here {n} k =
        let x = found (struct_handles_in (unit_read unit)) w in
        let b = handle_bytes x.stands in
        let c : n ≡ length x.item.type_parameters = k ∙ b.counted in
        record { is = rw x.is (record { abilities = b.abilities; counted = c; within = rw c b.within; phantoms = rw c b.phantoms }) }

pub ruleset handle_laws = (handles_fit, handle_past, handle_within, handle_here)
