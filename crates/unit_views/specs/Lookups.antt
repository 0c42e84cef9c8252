-- What a look-up may answer, and what it may read, where the table has the entry and where it has not.
use Rattle.std.specs.Prelude.{◌≡◌, ℕ, ◌+◌, ◌<◌, Ok, Err}
use Rattle.std.proofs.Math.Path.{refl}
use Rattle.std.proofs.Common.{sym, ◌∙◌, arith}
use mathlib.Core.List.{List, [], ◌∷◌}
use Rattle.std.proofs.Math.ListN.{length}
use Rattle.status.specs.declared.StatusCode.{StatusCode}
use Rattle.status.specs.declared.StatusCode.TheVariants.{OUT_OF_TABLE}
use Rattle.definitions.specs.Result.{at}
use Rattle.definitions.specs.SignatureToken.{SignatureToken, SignatureTokens, Signature, []ᵗ, ◌∷ᵗ◌, count, arguments, encode, encode_all}
use Rattle.definitions.specs.CompiledUnit as defs
use Rattle.definitions.specs.Reader.{compiled_unit, type}
use Rattle.definitions.specs.Places.{At, TypeAt, TypesAt}
use Rattle.theorems.specs.AtLaws.{at_front}
use Rattle.record_reader.specs.Sound.{type_sound}
use Rattle.record_views.specs.declared.StructDef.{StructDef}
use Rattle.signature_token.specs.declared.SignatureView.{SignatureView}
use Rattle.signature_token.specs.declared.TypeList.{TypeList}
use Rattle.signature_token.specs.declared.TypeRef.{TypeRef}
use Rattle.record_views.specs.Records.{ListHere, ListIs, DefIs, DefAt}
use Rattle.record_views.specs.Reread.{def_read}
use Rattle.unit_tables.specs.declared.UnitView.{UnitView}
use Rattle.unit_tables.specs.Answers.{ResultIs, found_first, refused_first}
use Rattle.unit_tables.specs.Compiled.{unit_read, compiled, fit, in_module, in_script, module_only}
use Rattle.unit_tables.specs.Tables.{EntryIs, PastIs, signatures_in, struct_defs_in, constants_in, found, refused_past}

-- the type t is what r refers to
abbrev pub TypeOf : SignatureToken → TypeRef → Type 0
TypeOf t r = At r.bytes.now r.at (encode t)

module _ (unit : UnitView) (i : ℕ) where
  -- ── signatures ──

  module _ {p : ℕ} (w : EntryIs unit.index.now unit.view.signatures i p) where
    unfoldable pub signature_listed : ListHere unit.bytes.now (p + 1)
    unfolding compiled_unit
    signature_listed =
        let x = found (signatures_in (unit_read unit)) w in
        record { head = (compiled unit).head; types = x.item; ends = _; reads = x.stands.reads }

    pub signature_here : {r : SignatureView} → ((k : ListHere unit.bytes.now (p + 1)) → ListIs k.types r) → ResultIs ListIs (defs.signature_at (compiled unit) i) (Ok r)
    unfolding defs.signature_at signature_listed compiled_unit
    signature_here k =
        let x = found (signatures_in (unit_read unit)) w in
        record { is = rw x.is (k signature_listed) }

  pub signature_past : {v : StatusCode} → PastIs unit.view.signatures i v → ResultIs ListIs (defs.signature_at (compiled unit) i) (Err v)
  unfolding defs.signature_at
  signature_past w = record { is = rw (refused_past (signatures_in (unit_read unit)) w) refl }

  -- ── constants ──

  module _ {p : ℕ} (w : EntryIs unit.index.now unit.view.constants i p) where
    unfoldable pub constant_stands : TypeAt unit.bytes.now (p + 1)
    unfolding type compiled_unit
    constant_stands =
        let x = found (constants_in (unit_read unit)) w in
        record { type = x.item; stands = ((type_sound (compiled unit).head _ unit.small 32).sound (p + 1) _ x.item x.stands.reads).stands }

    pub constant_here : {r : TypeRef} → r.bytes.now ≡ unit.bytes.now → r.at ≡ p + 1 → ResultIs TypeOf (defs.constant_at (compiled unit) i) (Ok r)
    unfolding defs.constant_at constant_stands type compiled_unit
    constant_here e f =
        let x = found (constants_in (unit_read unit)) w in
        record { is = rw (x.is, e, f) constant_stands.stands }

  pub constant_past : {v : StatusCode} → PastIs unit.view.constants i v → ResultIs TypeOf (defs.constant_at (compiled unit) i) (Err v)
  unfolding defs.constant_at
  constant_past w = record { is = rw (refused_past (constants_in (unit_read unit)) w) refl }

  -- ── struct definitions ──

  pub def_script : {v : StatusCode} → Err v ≡ module_only (compiled unit).head → ResultIs DefIs (defs.struct_def_at (compiled unit) i) (Err v)
  unfolding defs.struct_def_at
  def_script e = record { is = rw (in_script _ (at (compiled unit).struct_defs i) e) refl }

  pub def_past : {v : StatusCode} → Ok tt ≡ module_only (compiled unit).head → PastIs unit.view.struct_defs i v → ResultIs DefIs (defs.struct_def_at (compiled unit) i) (Err v)
  unfolding defs.struct_def_at
  def_past e w = record { is = rw (in_module _ (at (compiled unit).struct_defs i) e, refused_past (struct_defs_in (unit_read unit)) w) refl }

  module _ {p : ℕ} (w : EntryIs unit.index.now unit.view.struct_defs i p) where
    unfoldable pub def_at : DefAt unit.bytes.now p
    unfolding compiled_unit
    def_at =
        let x = found (struct_defs_in (unit_read unit)) w in
        record { head = (compiled unit).head; def = x.item; reads = x.stands }

    pub def_room : p + 3 < length unit.bytes.now
    def_room = (def_read def_at).within

    pub def_here : {r : StructDef} → Ok tt ≡ module_only (compiled unit).head → ((k : DefAt unit.bytes.now p) → DefIs k.def r) → ResultIs DefIs (defs.struct_def_at (compiled unit) i) (Ok r)
    unfolding defs.struct_def_at def_at compiled_unit
    def_here e k =
        let x = found (struct_defs_in (unit_read unit)) w in
        record { is = rw (in_module _ (at (compiled unit).struct_defs i) e, x.is) (k def_at) }

-- ── no types ──

-- they stand anywhere
pub nothing_stands : (s : List ℕ) → TypesAt s 0 0
unfolding count encode_all
nothing_stands s = record { types = []ᵗ; counted = refl; stands = record { rest = s; here = refl } }

pub nothing_listed : {r : SignatureView} → r.types.count ≡ 0 → ListIs [] r
unfolding arguments encode_all
nothing_listed {r} e = record { counted = e; stands = record { rest = _; here = refl } }

-- ── the element type of a vector instruction ──

-- a list that is not empty has a first type
pub first_stands : (l : TypeList) → (l.count ≡ 0 → ⊥) → TypeAt l.bytes.now l.at
unfolding count encode_all
first_stands l c = go l.stand.types l.stand.counted l.stand.stands
  where
    go : (ts : SignatureTokens) → count ts ≡ l.count → At l.bytes.now l.at (encode_all ts) → TypeAt l.bytes.now l.at
    go []ᵗ n k = absurd (c (sym n))
    go (t ∷ᵗ ts) n k = record { type = t; stands = at_front (encode t) (encode_all ts) k }

module _ (u : defs.CompiledUnit) (i : ℕ) where
  pub element_past : {v : StatusCode} → ResultIs ListIs (defs.signature_at u i) (Err v) → ResultIs TypeOf (defs.element_type_at u i) (Err v)
  unfolding defs.element_type_at
  element_past w = refused_first _ w

  module _ {l : SignatureView} (w : ResultIs ListIs (defs.signature_at u i) (Ok l)) where
    pub element_none : l.types.count ≡ 0 → ResultIs TypeOf (defs.element_type_at u i) (Err OUT_OF_TABLE)
    unfolding defs.element_type_at at
    element_none c = found_first _ w (λ ts k. go ts (sym k.counted ∙ c))
      where
        go : (ts : Signature) → length ts ≡ 0 → ResultIs TypeOf (at ts 0) (Err OUT_OF_TABLE)
        go [] n = record { is = refl }
        go (t ∷ ts) n = absurd (omega arith)

    pub element_here :
        {r : TypeRef} → r.bytes.now ≡ l.types.bytes.now → r.at ≡ l.types.at → (l.types.count ≡ 0 → ⊥) → ResultIs TypeOf (defs.element_type_at u i) (Ok r)
    unfolding defs.element_type_at at arguments encode_all
    element_here {r} e f c = found_first _ w (λ ts k. go ts k.counted (rw (e, f) k.stands))
      where
        go : (ts : Signature) → l.types.count ≡ length ts → At r.bytes.now r.at (encode_all (arguments ts)) → ResultIs TypeOf (at ts 0) (Ok r)
        go [] n k = absurd (c n)
        go (t ∷ ts) n k = record { is = at_front (encode t) (encode_all (arguments ts)) k }

-- ── the laws of the look-ups ──

pub ruleset signature_lookup = (fit, signature_listed, signature_past)

pub ruleset element_lookup = (first_stands, element_past, element_none, element_here)

pub ruleset constant_lookup = (fit, constant_stands, constant_here, constant_past)

pub ruleset def_lookup = (fit, def_script, def_past, def_at, def_room)
