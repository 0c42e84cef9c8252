-- The unit of a view: what the definitions read of its bytes.
use Rattle.std.specs.Prelude.{◌≡◌, refl, List, ℕ, Result, Ok, Err}
use Rattle.std.proofs.Common.{sym, ap, ◌∙◌}
use Rattle.status.specs.declared.StatusCode.{StatusCode}
use Rattle.status.specs.declared.StatusCode.TheVariants.{INVALID_OPERATION_IN_SCRIPT}
use Rattle.definitions.specs.Result as results
use Rattle.definitions.specs.Result.{ok, err}
use Rattle.definitions.specs.CompiledUnit as defs
use Rattle.definitions.specs.Reading.{Read, read, stop}
use Rattle.definitions.specs.Reader.{Decoded, read_unit, compiled_unit}
use Rattle.unit.specs.declared.View.{View}
use Rattle.unit.specs.declared.Head.{Head}
use Rattle.unit.specs.Views.{UnitRead, head_for, view_of}
use Rattle.unit_tables.specs.ReadAs.{ReadAs}
use Rattle.unit_tables.specs.Tables.{Fits, table_fits, signatures_in, constants_in, struct_defs_in}
use Rattle.unit_tables.specs.declared.UnitView.{UnitView}

-- the unit was read
pub unit_read : (unit : UnitView) → UnitRead unit.bytes.now unit.index.now unit.view
unit_read unit = go (read_unit unit.bytes.now) refl unit.read
  where
    go : (x : Read Decoded) → read_unit unit.bytes.now ≡ x → ReadAs x unit.index.now unit.view → UnitRead unit.bytes.now unit.index.now unit.view
    go (read d e) q h = record { decoded = d; ends = e; reads = q; viewed = h.0; indexed = h.1 }
    go (stop status p) q h = absurd h

-- it as the definitions have it
abbrev pub compiled : UnitView → defs.CompiledUnit
compiled unit = compiled_unit (unit_read unit).decoded

-- what a caller has who read the unit
pub read_as : {s index : List ℕ} {view : View} → UnitRead s index view → ReadAs (read_unit s) index view
read_as u = rw u.reads (u.viewed, u.indexed)

-- ── its tables ──

module _ (unit : UnitView) where
  pub signatures_fit : Fits unit.index.now unit.view.signatures
  signatures_fit = table_fits (signatures_in (unit_read unit))

  pub constants_fit : Fits unit.index.now unit.view.constants
  constants_fit = table_fits (constants_in (unit_read unit))

  pub struct_defs_fit : Fits unit.index.now unit.view.struct_defs
  struct_defs_fit = table_fits (struct_defs_in (unit_read unit))

pub ruleset fit = (signatures_fit, constants_fit, struct_defs_fit)

-- ── its head ──

-- the tables that only a module has: whether there are any
abbrev pub module_only : defs.Head → Result (Unit {0}) StatusCode
module_only defs.Module = Ok tt
module_only defs.Script = Err INVALID_OPERATION_IN_SCRIPT

module _ (unit : UnitView) where
  head_is : unit.view.head ≡ head_for (compiled unit).head
  unfolding compiled_unit view_of
  head_is = ap (λ (v : View). v.head) (unit_read unit).viewed

  pub module_head : unit.view.head ≡ Head.Module → Ok tt ≡ module_only (compiled unit).head
  module_head e = go (compiled unit).head (sym head_is ∙ e)
    where
      go : (h : defs.Head) → head_for h ≡ Head.Module → Ok tt ≡ module_only h
      go defs.Module q = refl
      go defs.Script q = cc

  pub script_head : unit.view.head ≡ Head.Script → Err INVALID_OPERATION_IN_SCRIPT ≡ module_only (compiled unit).head
  script_head e = go (compiled unit).head (sym head_is ∙ e)
    where
      go : (h : defs.Head) → head_for h ≡ Head.Script → Err INVALID_OPERATION_IN_SCRIPT ≡ module_only h
      go defs.Module q = cc
      go defs.Script q = refl

-- where they are asked for, a script has none
module _ {A : Type 0} (h : defs.Head) (x : results.Result A) where
  pub in_module : Ok tt ≡ module_only h → defs.in_module h x ≡ x
  unfolding defs.in_module
  in_module e = elim h as (λ (g : defs.Head). Ok tt ≡ module_only g → defs.in_module g x ≡ x) [ defs.Module ↦ λ q. refl | defs.Script ↦ λ q. cc ] e

  pub in_script : {v : StatusCode} → Err v ≡ module_only h → defs.in_module h x ≡ err v
  unfolding defs.in_module
  in_script {v} e = go h e
    where
      go : (g : defs.Head) → Err v ≡ module_only g → defs.in_module g x ≡ err v
      go defs.Module q = cc
      go defs.Script q = let z : v ≡ INVALID_OPERATION_IN_SCRIPT = cc in rw z refl
