-- How a struct that was looked up with its type arguments stands for that of the definitions, and a law for each way that the look-up ends.
use Rattle.std.specs.Prelude.{◌≡◌, List, [], ℕ, Ok, Err}
use Rattle.std.proofs.Math.Path.{refl}
use Rattle.status.specs.declared.StatusCode.{StatusCode}
use Rattle.definitions.specs.Result.{ok, err, ◌>>?◌}
use Rattle.definitions.specs.CompiledUnit as defs
use Rattle.record_views.specs.declared.StructDef.{StructDef}
use Rattle.signature_token.specs.declared.SignatureView.{SignatureView}
use Rattle.record_views.specs.Records.{ListIs, DefIs, FieldsIn}
use Rattle.handle_views.specs.declared.StructDefInstantiation.{StructDefInstantiation}
use Rattle.handle_views.specs.Answers.{struct_instantiation_of}
use Rattle.unit_tables.specs.Answers.{ResultIs, refused_first, found_first}
use Rattle.step_views.specs.declared.StructWith.{StructWith}

-- the definition and the type arguments of r are those of d
pub record WithIs (d : defs.StructWith) (r : StructWith) : Type 0 where
  pub def : DefIs d.def r.def
  pub args : ListIs d.type_args r.type_args

-- the fields' types and the type arguments stand in the bytes s
pub record WithIn (s : List ℕ) (r : StructWith) : Type 0 where
  pub fields : FieldsIn s r.def.fields
  pub args : r.type_args.types.bytes.now ≡ s

module _ (u : defs.CompiledUnit) (i : ℕ) where
  -- ── without type arguments ──

  pub plain_refused : {v : StatusCode} → ResultIs DefIs (defs.struct_def_at u i) (Err v) → ResultIs WithIs (defs.plain_struct u i) (Err v)
  unfolding defs.plain_struct
  plain_refused w = refused_first _ w

  pub plain_found :
      {d : StructDef} {ts : SignatureView} → ResultIs DefIs (defs.struct_def_at u i) (Ok d) → ListIs [] ts →
      ResultIs WithIs (defs.plain_struct u i) (Ok (record { def = d; type_args = ts }))
  unfolding defs.plain_struct
  plain_found w e = found_first _ w (λ d k. record { is = record { def = k; args = e } })

  -- ── with them ──

  pub instantiation_refused : {v : StatusCode} → err v ≡ defs.struct_instantiation_at u i → ResultIs WithIs (defs.generic_struct u i) (Err v)
  unfolding defs.generic_struct ◌>>?◌
  instantiation_refused e = record { is = rw (← e) refl }

  module _ {inst : StructDefInstantiation} (e : ok (struct_instantiation_of inst) ≡ defs.struct_instantiation_at u i) where
    pub generic_refused : {v : StatusCode} → ResultIs DefIs (defs.struct_def_at u inst.def.0) (Err v) → ResultIs WithIs (defs.generic_struct u i) (Err v)
    unfolding defs.generic_struct ◌>>?◌
    generic_refused w = rw (← e) (refused_first _ w)

    module _ {d : StructDef} (w : ResultIs DefIs (defs.struct_def_at u inst.def.0) (Ok d)) where
      pub arguments_refused : {v : StatusCode} → ResultIs ListIs (defs.signature_at u inst.type_parameters.0) (Err v) → ResultIs WithIs (defs.generic_struct u i) (Err v)
      unfolding defs.generic_struct ◌>>?◌
      arguments_refused l = rw (← e) (found_first _ w (λ def k. refused_first _ l))

      pub generic_found :
          {ts : SignatureView} → ResultIs ListIs (defs.signature_at u inst.type_parameters.0) (Ok ts) →
          ResultIs WithIs (defs.generic_struct u i) (Ok (record { def = d; type_args = ts }))
      unfolding defs.generic_struct ◌>>?◌
      generic_found l = rw (← e) (found_first _ w (λ def k. found_first _ l (λ args m. record { is = record { def = k; args = m } })))

pub ruleset plain_laws = (plain_refused, plain_found)

pub ruleset generic_laws = (instantiation_refused, generic_refused, arguments_refused, generic_found)
