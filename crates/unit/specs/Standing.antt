-- Each record of a unit that was read stands at its place, and each instruction at its own.
use Rattle.std.specs.Prelude.{◌≡◌, refl, Bool, true, false, ◌&&◌, leb, ltb, length, get_or}
use Rattle.std.proofs.Common.{sym, ◌∙◌, not-suc-le-zero, le_of_suc-le-suc, arith, leb-true, ltb-true}
use Rattle.std.proofs.Math.Path.{ap, subst}
use mathlib.Core.List.{List, [], ◌∷◌}
use Prim.Native.Nat.{ℕ, zero, suc, ◌+◌, ◌≤◌, ◌<◌}
use Rattle.status.specs.declared.StatusCode.{StatusCode}
use Rattle.status.specs.declared.StatusCode.TheVariants.{TOO_LONG, BLOCK}
use Rattle.definitions.specs.Result.{ok, at}
use Rattle.definitions.specs.Bytecode.{Bytecode}
use Rattle.definitions.specs.CompiledUnit.{Head, Block}
use Rattle.definitions.specs.Reading.{Read, read, stop, Reader, next, ◌>>=◌, ◌>>◌, give, fail, here, need, byte, u16, many, Placed, placed}
use Rattle.definitions.specs.Commands.{Commands, commands_of}
use Rattle.definitions.specs.Reader.{Decoded, items, table, due, function_view, instruction, code, end, blocks_within, unit_under, unit_after_head, head_command, HeadCommand, opened, unopened, unit, read_unit, type, types, struct_handle, function_handle, function_instantiation, struct_definition, struct_def_instantiation, field_handle, field_instantiation, block}
use Rattle.definitions.specs.Places.{TableAt}
use Rattle.record_reader.specs.Apart.{Parts, parts, made, byte_read}
use Rattle.unit.specs.Outline.{starts, UnitTables, unit_tables, UnitListing, unit_listing}
use Rattle.unit.specs.Parts.{decoded, unit_in_parts, unit_in_parts_law}
use Rattle.unit.specs.Stand.{table_stands, due_got}

-- ── the statement ──

-- each instruction is read at its place
pub record CodeStands (commands : Commands) (s : List ℕ) (code : List (Placed Bytecode)) : Type 0 where
  pub stands : (i : ℕ) → i < length code → (a : Placed Bytecode) → (e : ℕ) × (instruction commands s (get_or code i a).start ≡ read (get_or code i a).item e)

-- each block's first instruction is not past its last, and its last is one of the n
pub record BlocksOrdered (n : ℕ) (blocks : List Block) : Type 0 where
  pub ordered : (i : ℕ) (b : Block) → at blocks i ≡ ok b → (b.first ≤ b.last) × (b.last < n)

pub record UnitStands (s : List ℕ) (d : Decoded) : Type 0 where
  pub struct_handles : TableAt struct_handle s (starts d.struct_handles) (items d.struct_handles)
  pub signatures : TableAt (types (commands_of d.head)) s (starts d.signatures) (items d.signatures)
  pub function_handles : TableAt function_handle s (starts d.function_handles) (items d.function_handles)
  pub function_instantiations : TableAt function_instantiation s (starts d.function_instantiations) (items d.function_instantiations)
  pub struct_defs : TableAt (struct_definition (commands_of d.head)) s (starts d.struct_defs) (items d.struct_defs)
  pub struct_instantiations : TableAt struct_def_instantiation s (starts d.struct_instantiations) (items d.struct_instantiations)
  pub field_handles : TableAt field_handle s (starts d.field_handles) (items d.field_handles)
  pub field_instantiations : TableAt field_instantiation s (starts d.field_instantiations) (items d.field_instantiations)
  pub constants : TableAt (type (commands_of d.head)) s (starts d.constants) (items d.constants)
  pub function : (e : ℕ) × (function_view (items d.signatures) s (d.function.start + 1) ≡ read d.function.item e)
  pub blocks : TableAt block s (starts d.blocks) (items d.blocks)
  pub code : CodeStands (commands_of d.head) s d.code
  pub ordered : BlocksOrdered (length d.code) (items d.blocks)

-- ── code ──

module _ (commands : Commands) (s : List ℕ) where
  one_stands :
      (x : Placed Bytecode) (l : List (Placed Bytecode)) (e : ℕ) → instruction commands s x.start ≡ read x.item e → CodeStands commands s l →
      CodeStands commands s (x ∷ l)
  one_stands x l e h k = record { stands = go }
    where
      go : (i : ℕ) → i < length (x ∷ l) → (a : Placed Bytecode) → (e : ℕ) × (instruction commands s (get_or (x ∷ l) i a).start ≡ read (get_or (x ∷ l) i a).item e)
      go zero m a = (e, h)
      go (suc i) m a = k.stands i (le_of_suc-le-suc m) a

  many_stand : (n at : ℕ) (l : List (Placed Bytecode)) (e : ℕ) → many n (placed (instruction commands)) s at ≡ read l e → CodeStands commands s l
  unfolding many placed here ◌>>=◌ next
  many_stand zero at l e h = let z = (made s h).0 in rw (← z) (record { stands = λ i m a. absurd (not-suc-le-zero m) })
  many_stand (suc n) at l e h =
      let p = parts (placed (instruction commands)) (λ a. many n (placed (instruction commands)) >>= λ rest. give (a ∷ rest)) s at h in
      let q = parts (many n (placed (instruction commands))) (λ rest. give (p.value ∷ rest)) s p.middle p.second in
      let r = parts (instruction commands) (λ a. give (record { start = at; item = a })) s at p.first in
      let z = (made s r.second).0 in
      let y = (made s q.second).0 in
      subst (λ (l : List (Placed Bytecode)). CodeStands commands s l) y
      (subst (λ (x : Placed Bytecode). CodeStands commands s (x ∷ q.value)) z
      (one_stands (record { start = at; item = r.value }) q.value r.middle r.first (many_stand n p.middle q.value q.middle q.first)))

  code_stands : (at : ℕ) (l : List (Placed Bytecode)) (e : ℕ) → code commands s at ≡ read l e → CodeStands commands s l
  unfolding code
  code_stands at l e h =
      let p = parts u16 (λ n. many n (placed (instruction commands))) s at h in
      many_stand p.value p.middle l e p.second

-- Two readers in turn, the parts of what was read bound to names: a chain of them that is taken apart by `let` writes out what came before at
-- each step.
in_turn :
    {A B : Type 0} (m : Reader A) (f : A → Reader B) (s : List ℕ) (at : ℕ) {b : B} {e : ℕ} → (m >>= f) s at ≡ read b e →
    {C : Type 0} → ((middle : ℕ) (value : A) → m s at ≡ read value middle → f value s middle ≡ read b e → C) → C
in_turn m f s at h k = let p = parts m f s at h in k p.middle p.value p.first p.second

-- ── the tables ──

module _ (commands : Commands) (s : List ℕ) where
  -- each table stands, where all were read from `at` on
  pub record TablesStand (t : UnitTables) : Type 0 where
    pub struct_handles : TableAt struct_handle s (starts t.struct_handles) (items t.struct_handles)
    pub signatures : TableAt (types commands) s (starts t.signatures) (items t.signatures)
    pub function_handles : TableAt function_handle s (starts t.function_handles) (items t.function_handles)
    pub function_instantiations : TableAt function_instantiation s (starts t.function_instantiations) (items t.function_instantiations)
    pub struct_defs : TableAt (struct_definition commands) s (starts t.struct_defs) (items t.struct_defs)
    pub struct_instantiations : TableAt struct_def_instantiation s (starts t.struct_instantiations) (items t.struct_instantiations)
    pub field_handles : TableAt field_handle s (starts t.field_handles) (items t.field_handles)
    pub field_instantiations : TableAt field_instantiation s (starts t.field_instantiations) (items t.field_instantiations)
    pub constants : TableAt (type commands) s (starts t.constants) (items t.constants)

  stands : {A : Type 0} (c : ℕ) (body : Reader A) (at : ℕ) {l : List (Placed A)} {e : ℕ} → table commands c body s at ≡ read l e → TableAt body s (starts l) (items l)
  stands c body at {l} {e} h = table_stands body c s commands at l e h

  tables_stand : (at : ℕ) (t : UnitTables) (e : ℕ) → unit_tables commands s at ≡ read t e → TablesStand t
  unfolding unit_tables
  tables_stand at t e h =
      in_turn (table commands 0x10 struct_handle) _ s at h (λ e1 l1 q1 h1.
      in_turn (table commands 0x11 (types commands)) _ s e1 h1 (λ e2 l2 q2 h2.
      in_turn (table commands 0x12 function_handle) _ s e2 h2 (λ e3 l3 q3 h3.
      in_turn (table commands 0x13 function_instantiation) _ s e3 h3 (λ e4 l4 q4 h4.
      in_turn (table commands 0x14 (struct_definition commands)) _ s e4 h4 (λ e5 l5 q5 h5.
      in_turn (table commands 0x15 struct_def_instantiation) _ s e5 h5 (λ e6 l6 q6 h6.
      in_turn (table commands 0x16 field_handle) _ s e6 h6 (λ e7 l7 q7 h7.
      in_turn (table commands 0x17 field_instantiation) _ s e7 h7 (λ e8 l8 q8 h8.
      in_turn (table commands 0x18 (type commands)) _ s e8 h8 (λ e9 l9 q9 h9.
      subst (λ (t : UnitTables). TablesStand t) (made s h9).0
      (record {
        struct_handles = stands 0x10 struct_handle at q1;
        signatures = stands 0x11 (types commands) e1 q2;
        function_handles = stands 0x12 function_handle e2 q3;
        function_instantiations = stands 0x13 function_instantiation e3 q4;
        struct_defs = stands 0x14 (struct_definition commands) e4 q5;
        struct_instantiations = stands 0x15 struct_def_instantiation e5 q6;
        field_handles = stands 0x16 field_handle e6 q7;
        field_instantiations = stands 0x17 field_instantiation e7 q8;
        constants = stands 0x18 (type commands) e8 q9;
      }))))))))))

-- ── the unit ──

-- two readers in turn, of which the first keeps nothing
pub then-parts : {A B : Type 0} (m : Reader A) (n : Reader B) (s : List ℕ) (at : ℕ) {b : B} {e : ℕ} → (m >> n) s at ≡ read b e → Parts m (λ _. n) s at b e
unfolding ◌>>◌ ◌>>=◌
then-parts m n s at h = parts m (λ _. n) s at h

pub here_is : (s : List ℕ) (at : ℕ) {p e : ℕ} → here s at ≡ read p e → (at ≡ p) × (at ≡ e)
unfolding here
here_is s at h = (cc, cc)

-- a test that held
pub needed : (t : Bool) (status : StatusCode) (s : List ℕ) (p at : ℕ) {u : Unit {0}} {e : ℕ} → need t status p s at ≡ read u e → t ≡ true
unfolding need
needed true status s p at h = refl
needed false status s p at h = let z : ◌≡◌ {A = ℕ} 0 1 = cc in absurd (omega arith)

both : (a b : Bool) → (a && b) ≡ true → (a ≡ true) × (b ≡ true)
both true b h = (refl, h)
both false b h = let z : ◌≡◌ {A = ℕ} 0 1 = cc in absurd (omega arith)

blocks_ordered : (n : ℕ) (l : List (Placed Block)) (s : List ℕ) (p : ℕ) {u : Unit {0}} {e : ℕ} → blocks_within n l s p ≡ read u e → BlocksOrdered n (items l)
unfolding blocks_within at items
blocks_ordered n [] s p h = record { ordered = λ i b k. let z : ◌≡◌ {A = ℕ} 0 1 = cc in absurd (omega arith) }
blocks_ordered n (x ∷ l) s p h =
    let k = then-parts (need (leb x.item.first x.item.last && ltb x.item.last n) BLOCK x.start) (blocks_within n l) s p h in
    let (f, g) = both (leb x.item.first x.item.last) (ltb x.item.last n) (needed _ BLOCK s x.start p k.first) in
    record { ordered = go (blocks_ordered n l s k.middle k.second) (leb-true _ _ f) (ltb-true _ _ g) }
  where
    go :
        BlocksOrdered n (items l) → x.item.first ≤ x.item.last → x.item.last < n → (i : ℕ) (b : Block) → at (x.item ∷ items l) i ≡ ok b →
        (b.first ≤ b.last) × (b.last < n)
    go rest f g zero b q = let y : x.item ≡ b = cc in rw (← y) (f, g)
    go rest f g (suc i) b q = rest.ordered i b q

-- blocks and code stand
pub record ListingStands (commands : Commands) (s : List ℕ) (l : UnitListing) : Type 0 where
  pub blocks : TableAt block s (starts l.blocks) (items l.blocks)
  pub code : CodeStands commands s l.code
  pub ordered : BlocksOrdered (length l.code) (items l.blocks)

listing_stands : (commands : Commands) (s : List ℕ) (at : ℕ) (l : UnitListing) (e : ℕ) → unit_listing commands s at ≡ read l e → ListingStands commands s l
unfolding unit_listing
listing_stands commands s at l e h =
    let a = parts (table commands 0x1A block) _ s at h in
    let b = then-parts (due commands 0x1B) _ s a.middle a.second in
    let c = parts (code commands) _ s b.middle b.second in
    let d = then-parts end _ s c.middle c.second in
    let f = then-parts (blocks_within (length c.value) a.value) _ s d.middle d.second in
    let z = (made s f.second).0 in
    subst (λ (l : UnitListing). ListingStands commands s l) z
    (record { blocks = stands commands s 0x1A block _ a.first; code = code_stands commands s _ _ _ c.first; ordered = blocks_ordered _ _ s _ f.first })

module _ (head : Head) (s : List ℕ) where
  in_parts_stands : (d : Decoded) (e : ℕ) → unit_in_parts head s 1 ≡ read d e → UnitStands s d
  unfolding unit_in_parts decoded
  in_parts_stands d e h =
      let a = parts (unit_tables (commands_of head)) _ s 1 h in
      let b = parts here _ s a.middle a.second in
      let c = then-parts (due (commands_of head) 0x19) _ s b.middle b.second in
      let f = parts (function_view (items a.value.signatures)) _ s c.middle c.second in
      let l = parts (unit_listing (commands_of head)) _ s f.middle f.second in
      let z = (made s l.second).0 in
      let t = tables_stand (commands_of head) s 1 a.value a.middle a.first in
      let k = listing_stands (commands_of head) s f.middle l.value l.middle l.first in
      let p = here_is s a.middle b.first in
      let m : c.middle ≡ b.value + 1 = (due_got (commands_of head) 0x19 s b.middle c.first).1 ∙ omega (arith, p.0, p.1) in
      subst (λ (d : Decoded). UnitStands s d) z
      (record {
        struct_handles = t.struct_handles;
        signatures = t.signatures;
        function_handles = t.function_handles;
        function_instantiations = t.function_instantiations;
        struct_defs = t.struct_defs;
        struct_instantiations = t.struct_instantiations;
        field_handles = t.field_handles;
        field_instantiations = t.field_instantiations;
        constants = t.constants;
        function = (f.middle, ap (function_view (items a.value.signatures) s) (sym m) ∙ f.first);
        blocks = k.blocks;
        code = k.code;
        ordered = k.ordered;
      })

  under_stands : (d : Decoded) (e : ℕ) → unit_under head s 1 ≡ read d e → UnitStands s d
  under_stands d e h = in_parts_stands d e (sym (unit_in_parts_law head s 1) ∙ h)

-- EACH RECORD AND EACH INSTRUCTION OF A UNIT THAT WAS READ STANDS AT ITS PLACE
pub unit_stands : (s : List ℕ) (d : Decoded) (e : ℕ) → read_unit s ≡ read d e → UnitStands s d
unfolding read_unit unit unit_after_head fail
unit_stands s d e h = go (leb (length s) 32768) h
  where
    opening : (c : HeadCommand) (at : ℕ) → at ≡ 1 → unit_after_head c s at ≡ read d e → UnitStands s d
    opening (opened head) at q h = under_stands head s d e (rw q at h)
    opening unopened at q h = let z : ◌≡◌ {A = ℕ} 0 1 = cc in absurd (omega arith)

    go : (t : Bool) → (elim t as (λ (_ : Bool). Read Decoded) [ true ↦ unit s 0 | false ↦ stop TOO_LONG 0 ]) ≡ read d e → UnitStands s d
    go true h =
        let p = parts byte (λ c. unit_after_head (head_command c)) s 0 h in
        opening (head_command p.value) p.middle (byte_read s 0 p.first).next_at p.second
    go false h = let z : ◌≡◌ {A = ℕ} 0 1 = cc in absurd (omega arith)
