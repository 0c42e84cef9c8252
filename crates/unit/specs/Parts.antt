-- The parts in which the functions read a unit make up the definition's reader; and where the values are forgotten, the tables are those
-- that the functions read by their commands.
use Rattle.std.proofs.Math.Path.{◌≡◌, refl, ap}
use Rattle.std.proofs.Common.{sym, ◌∙◌, arith}
use Rattle.std.specs.Prelude.{Bool, ◌&&◌, ltb, length, get_or}
use Rattle.std.proofs.Math.Bool.{true, false}
use mathlib.Core.List.{List, [], ◌∷◌}
use Prim.Native.Nat.{ℕ, zero, suc}
use Rattle.std.proofs.Math.Dec.{eqb}
use Rattle.definitions.specs.CompiledUnit.{Head, FunctionView}
use Rattle.definitions.specs.Reading.{Read, read, stop, Reader, next, ◌>>=◌, ◌>>◌, give, here, byte, opens, Placed}
use Rattle.definitions.specs.Commands.{Commands, commands_of, known}
use Rattle.definitions.specs.Reader.{Decoded, items, table_within, table, due, function_view, unit_under}
use Rattle.record_reader.specs.declared.ReadError.{ReadError}
use Rattle.record_reader.specs.ReadTo.{read_to}
use Rattle.record_reader.specs.Alike.{Alike}
use Rattle.record_reader.specs.Bodies.{body_of}
use Rattle.record_reader.specs.BodyLaws.{body_struct_handle, body_signature, body_function_handle, body_function_instantiation, body_struct_definition, body_struct_def_instantiation, body_field_handle, body_field_instantiation, body_constant}
use Rattle.unit.specs.Outline.{starts, places, record_places, tables_within, table_places, UnitTables, unit_tables, places_of, UnitListing, unit_listing}

pub next_assoc :
    {A B C : Type 0} (x : Read A) (f : A → ℕ → Read B) (g : B → ℕ → Read C) → next (next x f) g ≡ next x (λ a e. next (f a e) g)
unfolding next
next_assoc (read a e) f g = refl
next_assoc (stop w p) f g = refl

-- ── the unit ──

-- the unit that the parts make up
unfoldable pub decoded : Head → UnitTables → ℕ → FunctionView → UnitListing → Decoded
decoded head t p view l = record {
  head = head;
  struct_handles = t.struct_handles;
  signatures = t.signatures;
  function_handles = t.function_handles;
  function_instantiations = t.function_instantiations;
  struct_defs = t.struct_defs;
  struct_instantiations = t.struct_instantiations;
  field_handles = t.field_handles;
  field_instantiations = t.field_instantiations;
  constants = t.constants;
  function = record { start = p; item = view };
  blocks = l.blocks;
  code = l.code;
}

unfoldable pub unit_in_parts : Head → Reader Decoded
unit_in_parts head = do
  t ← unit_tables (commands_of head)
  p ← here
  due (commands_of head) 0x19
  view ← function_view (items t.signatures)
  l ← unit_listing (commands_of head)
  give (decoded head t p view l)

pub next_give : {A B : Type 0} (a : A) (s : List ℕ) (at : ℕ) (f : A → ℕ → Read B) → next (give a s at) f ≡ f a at
unfolding next give
next_give a s at f = refl

pub unit_in_parts_law : (head : Head) (s : List ℕ) (at : ℕ) → unit_under head s at ≡ unit_in_parts head s at
unfolding unit_under unit_in_parts unit_tables unit_listing ◌>>=◌ ◌>>◌ decoded give here
unit_in_parts_law head s at = simp (next_assoc, next_give)

-- ── tables by their commands ──

-- the places of a read table
unfoldable starts_in : {A : Type 0} → Read (List (Placed A)) → Read (List ℕ)
starts_in x = next x (λ l e. read (starts l) e)

starts_one : {A : Type 0} (p : Placed A) (x : Read (List (Placed A))) → starts_in (next x (λ l e. read (p ∷ l) e)) ≡ next (starts_in x) (λ ps e. read (p.start ∷ ps) e)
unfolding starts_in next starts
starts_one p (read l e) = refl
starts_one p (stop w q) = refl

-- readers that are alike read tables with the same places
module _ {A B : Type 0} {m : Reader A} {n : Reader B} (h : Alike m n) (c : ℕ) (s : List ℕ) where
  body_alike :
      (turns at : ℕ) → ((e : ℕ) → starts_in (table_within turns c m s e) ≡ starts_in (table_within turns c n s e)) →
      (x : Read A) (y : Read B) → read_to x ≡ read_to y →
      starts_in (next x (λ a e. next (table_within turns c m s e) (λ l d. read (record { start = at; item = a } ∷ l) d)))
      ≡ starts_in (next y (λ b e. next (table_within turns c n s e) (λ l d. read (record { start = at; item = b } ∷ l) d)))
  unfolding next read_to starts_in
  body_alike turns at ih (read a e) (read b d) q =
      let z : e ≡ d = cc in
      starts_one (record { start = at; item = a }) (table_within turns c m s e) ∙ ap (λ x. next x (λ ps e. read (at ∷ ps) e)) (ih e)
      ∙ rw z (sym (starts_one (record { start = at; item = b }) (table_within turns c n s d)))
  body_alike turns at ih (read a e) (stop w p) q = let z : ◌≡◌ {A = ℕ} 0 1 = cc in absurd (omega arith)
  body_alike turns at ih (stop w p) (read b d) q = let z : ◌≡◌ {A = ℕ} 0 1 = cc in absurd (omega arith)
  body_alike turns at ih (stop w p) (stop v o) q =
      let z : ◌≡◌ {A = ReadError} (record { status = w; at = p }) (record { status = v; at = o }) = cc in
      let x : w ≡ v = ap (λ (e : ReadError). e.status) z in
      let y : p ≡ o = ap (λ (e : ReadError). e.at) z in
      rw (x, y)

  within_alike : (turns at : ℕ) → starts_in (table_within turns c m s at) ≡ starts_in (table_within turns c n s at)
  unfolding table_within give ◌>>=◌ ◌>>◌ next opens here starts_in starts
  within_alike zero at = refl
  within_alike (suc turns) at = go (λ e. within_alike turns e) (ltb at (length s) && eqb (get_or s at 0) c)
    where
      one : ((e : ℕ) → starts_in (table_within turns c m s e) ≡ starts_in (table_within turns c n s e)) → (x : Read ℕ) →
          starts_in (next x (λ _ e. next (m s e) (λ a e. next (table_within turns c m s e) (λ l d. read (record { start = at; item = a } ∷ l) d))))
          ≡ starts_in (next x (λ _ e. next (n s e) (λ b e. next (table_within turns c n s e) (λ l d. read (record { start = at; item = b } ∷ l) d))))
      one ih (read b e) = body_alike turns at ih (m s e) (n s e) (h.alike s e)
      one ih (stop w p) = refl

      go : ((e : ℕ) → starts_in (table_within turns c m s e) ≡ starts_in (table_within turns c n s e)) → (t : Bool) →
          starts_in ((elim t as (λ (_ : Bool). Reader (List (Placed A))) [ true ↦ (here >>= λ p. byte >> (m >>= λ a. table_within turns c m >>= λ rest. give (record { start = p; item = a } ∷ rest))) | false ↦ give [] ]) s at)
          ≡ starts_in ((elim t as (λ (_ : Bool). Reader (List (Placed B))) [ true ↦ (here >>= λ p. byte >> (n >>= λ a. table_within turns c n >>= λ rest. give (record { start = p; item = a } ∷ rest))) | false ↦ give [] ]) s at)
      go ih true = one ih (byte s at)
      go ih false = refl

  pub table_alike : (commands : Commands) (at : ℕ) → places (table commands c m) s at ≡ places (table commands c n) s at
  unfolding places table ◌>>=◌ give starts_in next starts
  table_alike commands at = go (known commands c)
    where
      go : (t : Bool) →
          starts_in {A = A} (elim t [ true ↦ table_within (length s) c m s at | false ↦ read [] at ]) ≡ starts_in {A = B} (elim t [ true ↦ table_within (length s) c n s at | false ↦ read [] at ])
      go true = within_alike (length s) at
      go false = refl

next_places :
    {A B : Type 0} (m : Reader (List (Placed A))) (s : List ℕ) (at : ℕ) (f : List ℕ → ℕ → Read B) → next (places m s at) f ≡ next (m s at) (λ l e. f (starts l) e)
unfolding places ◌>>=◌ give
next_places m s at f = simp (next_assoc, next_give)

module _ (commands : Commands) (s : List ℕ) where
  -- a table that was read by its command, as the definition reads it
  pub named : (c : ℕ) {A : Type 0} {body : Reader A} → Alike (body_of commands c) body → (at : ℕ) → record_places commands c s at ≡ places (table commands c body) s at
  unfolding record_places
  named c h at = table_alike h c s commands at

  pub tables_forgotten : (at : ℕ) → next (unit_tables commands s at) (λ t e. read (places_of t) e) ≡ table_places commands s at
  unfolding unit_tables table_places tables_within ◌>>=◌ give places_of
  tables_forgotten at =
      simp (
        next_assoc,
        next_give,
        next_places,
        named 0x10 (body_struct_handle commands),
        named 0x11 (body_signature commands),
        named 0x12 (body_function_handle commands),
        named 0x13 (body_function_instantiation commands),
        named 0x14 (body_struct_definition commands),
        named 0x15 (body_struct_def_instantiation commands),
        named 0x16 (body_field_handle commands),
        named 0x17 (body_field_instantiation commands),
        named 0x18 (body_constant commands),
      )
