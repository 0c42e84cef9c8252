-- A field handle's struct definition: how the answers of the two look-ups make that of `field_owner`, and what that tells the program.
use Rattle.std.specs.Prelude.{◌≡◌, List, ℕ, Ok, Err}
use Rattle.std.proofs.Math.Path.{refl}
use Rattle.status.specs.declared.StatusCode.{StatusCode}
use Rattle.definitions.specs.Result.{Result, ok, err, ◌>>?◌}
use Rattle.definitions.specs.CompiledUnit as defs
use Rattle.definitions.specs.Machine.{Step, ◌>>=◌, look}
use Rattle.record_views.specs.declared.StructDef.{StructDef}
use Rattle.record_views.specs.Records.{DefIs}
use Rattle.type_stack.specs.Answers.{Stepped}
use Rattle.type_stack.specs.Stepping.{StepsTo}
use Rattle.unit_tables.specs.Answers.{ResultIs, refused_first, found_first}
use Rattle.handle_views.specs.declared.FieldHandle.{FieldHandle}
use Rattle.handle_views.specs.Answers.{field_handle_of}
use Rattle.step_views.specs.Looked.{looked_then}
use Rattle.field_steps.specs.Borrows.{FieldOwner, field_owner, OwnerIs, OwnerAt}
use Rattle.field_steps.specs.declared.Owner.{Owner}

-- ── the look-ups ──

module _ (u : defs.CompiledUnit) (idx : ℕ) where
  pub no_handle : {v : StatusCode} → err v ≡ defs.field_handle_at u idx → ResultIs OwnerIs (field_owner u idx) (Err v)
  unfolding field_owner ◌>>?◌
  no_handle e = record { is = rw (← e) refl }

  module _ {h : FieldHandle} (e : ok (field_handle_of h) ≡ defs.field_handle_at u idx) where
    pub no_owner : {v : StatusCode} → ResultIs DefIs (defs.struct_def_at u h.owner.0) (Err v) → ResultIs OwnerIs (field_owner u idx) (Err v)
    unfolding field_owner ◌>>?◌
    no_owner w = rw (← e) (refused_first _ w)

    pub an_owner :
        {d : StructDef} → ResultIs DefIs (defs.struct_def_at u h.owner.0) (Ok d) →
        ResultIs OwnerIs (field_owner u idx) (Ok (record { def = d; field = h.field }))
    unfolding field_owner ◌>>?◌
    an_owner w = rw (← e) (found_first _ w (λ d k. record { is = record { def = k; field = refl } }))

pub ruleset owner_laws = (no_handle, no_owner, an_owner)

-- ── what an answer tells ──

module _ {x : Result FieldOwner} {o : Owner} (w : ResultIs OwnerIs x (Ok o)) where
  pub owner_then :
      (k : FieldOwner → Step) {a b : List ℕ} {v : ℕ} {q : Stepped} → ((f : OwnerAt o) → StepsTo (k f.owner) a v b q) → StepsTo (look x >>= k) a v b q
  owner_then k f = looked_then k w (λ h r. f (record { owner = h; are = r }))
