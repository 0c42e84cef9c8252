-- What a look-up may answer where the table has the record, where it has not, and where a script has no such table.
use Rattle.std.specs.Prelude.{◌≡◌, ℕ, Ok, Err}
use Rattle.std.proofs.Common.{sym, ◌∙◌}
use Rattle.status.specs.declared.StatusCode.{StatusCode}
use Rattle.definitions.specs.Result.{ok, err, at}
use Rattle.definitions.specs.CompiledUnit as defs
use Rattle.definitions.specs.Reader.{function_handle, function_instantiation, struct_def_instantiation, field_handle, field_instantiation}
use Rattle.unit_tables.specs.declared.UnitView.{UnitView}
use Rattle.unit_tables.specs.Compiled.{unit_read, compiled, module_only, in_module, in_script}
use Rattle.unit_tables.specs.Tables.{PastIs, refused_past, function_handles_in, function_instantiations_in, struct_instantiations_in, field_handles_in, field_instantiations_in}
use Rattle.handle_views.specs.Pairs.{PairIs, ModulePairIs, pairs_fit, pair_found, PairsFit}

module _ (unit : UnitView) where
  pub function_handle_fit : PairsFit unit.bytes.now unit.index.now unit.view.function_handles
  unfolding function_handle
  function_handle_fit = pairs_fit _ (function_handles_in (unit_read unit))

  pub function_handle_found : {i a b : ℕ} → PairIs unit.bytes.now unit.index.now unit.view.function_handles i (a, b) → ok (record { parameters = a; return = b }) ≡ defs.function_handle_at (compiled unit) i
  unfolding function_handle defs.function_handle_at
  function_handle_found w = pair_found _ (function_handles_in (unit_read unit)) w

  pub function_handle_refused : {i : ℕ} {v : StatusCode} → PastIs unit.view.function_handles i v → err v ≡ defs.function_handle_at (compiled unit) i
  unfolding defs.function_handle_at
  function_handle_refused w = sym (refused_past (function_handles_in (unit_read unit)) w)

  pub function_instantiation_fit : PairsFit unit.bytes.now unit.index.now unit.view.function_instantiations
  unfolding function_instantiation
  function_instantiation_fit = pairs_fit _ (function_instantiations_in (unit_read unit))

  pub function_instantiation_found : {i a b : ℕ} → PairIs unit.bytes.now unit.index.now unit.view.function_instantiations i (a, b) → ok (record { handle = a; type_parameters = b }) ≡ defs.function_instantiation_at (compiled unit) i
  unfolding function_instantiation defs.function_instantiation_at
  function_instantiation_found w = pair_found _ (function_instantiations_in (unit_read unit)) w

  pub function_instantiation_refused : {i : ℕ} {v : StatusCode} → PastIs unit.view.function_instantiations i v → err v ≡ defs.function_instantiation_at (compiled unit) i
  unfolding defs.function_instantiation_at
  function_instantiation_refused w = sym (refused_past (function_instantiations_in (unit_read unit)) w)

  pub struct_instantiation_fit : PairsFit unit.bytes.now unit.index.now unit.view.struct_instantiations
  unfolding struct_def_instantiation
  struct_instantiation_fit = pairs_fit _ (struct_instantiations_in (unit_read unit))

  pub struct_instantiation_found : {i a b : ℕ} → ModulePairIs unit unit.view.struct_instantiations i (a, b) → ok (record { def = a; type_parameters = b }) ≡ defs.struct_instantiation_at (compiled unit) i
  unfolding struct_def_instantiation defs.struct_instantiation_at
  struct_instantiation_found w = pair_found _ (struct_instantiations_in (unit_read unit)) w.pair ∙ sym (in_module _ (at (compiled unit).struct_instantiations _) w.head)

  pub struct_instantiation_in_script : (i : ℕ) {v : StatusCode} → Err v ≡ module_only (compiled unit).head → err v ≡ defs.struct_instantiation_at (compiled unit) i
  unfolding defs.struct_instantiation_at
  struct_instantiation_in_script i e = sym (in_script _ (at (compiled unit).struct_instantiations i) e)

  pub struct_instantiation_past : {i : ℕ} {v : StatusCode} → Ok tt ≡ module_only (compiled unit).head → PastIs unit.view.struct_instantiations i v → err v ≡ defs.struct_instantiation_at (compiled unit) i
  unfolding defs.struct_instantiation_at
  struct_instantiation_past e k = sym (in_module _ (at (compiled unit).struct_instantiations _) e ∙ refused_past (struct_instantiations_in (unit_read unit)) k)

  pub field_handle_fit : PairsFit unit.bytes.now unit.index.now unit.view.field_handles
  unfolding field_handle
  field_handle_fit = pairs_fit _ (field_handles_in (unit_read unit))

  pub field_handle_found : {i a b : ℕ} → ModulePairIs unit unit.view.field_handles i (a, b) → ok (record { owner = a; field = b }) ≡ defs.field_handle_at (compiled unit) i
  unfolding field_handle defs.field_handle_at
  field_handle_found w = pair_found _ (field_handles_in (unit_read unit)) w.pair ∙ sym (in_module _ (at (compiled unit).field_handles _) w.head)

  pub field_handle_in_script : (i : ℕ) {v : StatusCode} → Err v ≡ module_only (compiled unit).head → err v ≡ defs.field_handle_at (compiled unit) i
  unfolding defs.field_handle_at
  field_handle_in_script i e = sym (in_script _ (at (compiled unit).field_handles i) e)

  pub field_handle_past : {i : ℕ} {v : StatusCode} → Ok tt ≡ module_only (compiled unit).head → PastIs unit.view.field_handles i v → err v ≡ defs.field_handle_at (compiled unit) i
  unfolding defs.field_handle_at
  field_handle_past e k = sym (in_module _ (at (compiled unit).field_handles _) e ∙ refused_past (field_handles_in (unit_read unit)) k)

  pub field_instantiation_fit : PairsFit unit.bytes.now unit.index.now unit.view.field_instantiations
  unfolding field_instantiation
  field_instantiation_fit = pairs_fit _ (field_instantiations_in (unit_read unit))

  pub field_instantiation_found : {i a b : ℕ} → ModulePairIs unit unit.view.field_instantiations i (a, b) → ok (record { handle = a; type_parameters = b }) ≡ defs.field_instantiation_at (compiled unit) i
  unfolding field_instantiation defs.field_instantiation_at
  field_instantiation_found w = pair_found _ (field_instantiations_in (unit_read unit)) w.pair ∙ sym (in_module _ (at (compiled unit).field_instantiations _) w.head)

  pub field_instantiation_in_script : (i : ℕ) {v : StatusCode} → Err v ≡ module_only (compiled unit).head → err v ≡ defs.field_instantiation_at (compiled unit) i
  unfolding defs.field_instantiation_at
  field_instantiation_in_script i e = sym (in_script _ (at (compiled unit).field_instantiations i) e)

  pub field_instantiation_past : {i : ℕ} {v : StatusCode} → Ok tt ≡ module_only (compiled unit).head → PastIs unit.view.field_instantiations i v → err v ≡ defs.field_instantiation_at (compiled unit) i
  unfolding defs.field_instantiation_at
  field_instantiation_past e k = sym (in_module _ (at (compiled unit).field_instantiations _) e ∙ refused_past (field_instantiations_in (unit_read unit)) k)

-- ── what the look-ups ask, by table ──

pub ruleset function_handle_laws = (function_handle_fit, function_handle_found, function_handle_refused)

pub ruleset function_instantiation_laws = (function_instantiation_fit, function_instantiation_found, function_instantiation_refused)

pub ruleset struct_instantiation_laws = (struct_instantiation_fit, struct_instantiation_found, struct_instantiation_in_script, struct_instantiation_past)

pub ruleset field_handle_laws = (field_handle_fit, field_handle_found, field_handle_in_script, field_handle_past)

pub ruleset field_instantiation_laws = (field_instantiation_fit, field_instantiation_found, field_instantiation_in_script, field_instantiation_past)
