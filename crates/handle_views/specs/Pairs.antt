-- The records of a table that are two numbers.
use Rattle.std.specs.Prelude.{◌≡◌, List, ℕ, ◌+◌, ◌<◌, length, get_or, ◌⊎◌, Result, Ok, Err, MatchResult}
use Rattle.std.proofs.Common.{ap, sym, ap₂, inl, inr, ◌∙◌, arith}
use Rattle.status.specs.declared.StatusCode.{StatusCode}
use Rattle.definitions.specs.Result.{ok, at}
use Rattle.definitions.specs.Reader.{pair_of}
use Rattle.unit.specs.declared.Table.{Table}
use Rattle.record_reader.specs.Apart.{u16_of, pair_read}
use Rattle.unit_tables.specs.declared.UnitView.{UnitView}
use Rattle.unit_tables.specs.Compiled.{compiled, module_only}
use Rattle.unit_tables.specs.Tables.{TableIn, EntryIs, PastIs, placed, table_fits}

-- the entries are within the index, and each of the records has four bytes after its command
pub record PairsFit (s index : List ℕ) (t : Table) : Type 0 where
  pub there : (i : ℕ) → i < t.count → t.base + i < length index
  pub within : (i : ℕ) → i < t.count → get_or index (t.base + i) 0 + 4 < length s

-- r has the two numbers of record i
pub record PairIs (s index : List ℕ) (t : Table) (i : ℕ) (r : ℕ × ℕ) : Type 0 where
  pub below : i < t.count
  pub first : r.0 ≡ u16_of s (get_or index (t.base + i) 0 + 1)
  pub second : r.1 ≡ u16_of s (get_or index (t.base + i) 0 + 3)

-- the same of a table that a script lacks: the unit is a module
pub record ModulePairIs (unit : UnitView) (t : Table) (i : ℕ) (r : ℕ × ℕ) : Type 0 where
  pub head : Ok tt ≡ module_only (compiled unit).head
  pub pair : PairIs unit.bytes.now unit.index.now t i r

-- v refuses a script, or an index past the table
pub record IsRefusedAs (unit : UnitView) (t : Table) (i : ℕ) (v : StatusCode) : Type 0 where
  pub is : (Err v ≡ module_only (compiled unit).head) ⊎ ((Ok tt ≡ module_only (compiled unit).head) × PastIs t i v)

module _ (unit : UnitView) (t : Table) (i : ℕ) where
  pub in_a_script : {v : StatusCode} → Err v ≡ module_only (compiled unit).head → IsRefusedAs unit t i v
  in_a_script e = record { is = inl e }

  pub in_a_module :
      Ok tt ≡ module_only (compiled unit).head → (r : Result (ℕ × ℕ) StatusCode) → MatchResult r (PairIs unit.bytes.now unit.index.now t i) (PastIs t i) →
      MatchResult r (ModulePairIs unit t i) (IsRefusedAs unit t i)
  in_a_module e (Ok r) w = record { head = e; pair = w }
  in_a_module e (Err v) w = record { is = inr (e, w) }

module _ {s index : List ℕ} {t : Table} {i p : ℕ} (k : PairsFit s index t) (w : EntryIs index t i p) where
  pub pair_room : p + 4 < length s
  pair_room = let h = k.within i w.below in omega (arith, w.is)

pub ruleset pair_laws = (pair_room)

pub ruleset module_laws = (in_a_script, in_a_module)

module _ {A : Type 0} (f : ℕ → ℕ → A) {s index : List ℕ} {t : Table} {l : List A} (k : TableIn (pair_of f) s index t l) where
  pub pairs_fit : PairsFit s index t
  pairs_fit = record {
    there = (table_fits k).there;
    within = λ i h. let x = placed k {i = i} h in omega (arith, (pair_read f s _ x.stands.reads).within);
  }

  -- the record of what the code found
  pub pair_found : {i : ℕ} {r : ℕ × ℕ} → PairIs s index t i r → ok (f r.0 r.1) ≡ at l i
  pair_found {i} {r} e =
      let x = placed k {i = i} e.below in
      let p = get_or index (t.base + i) 0 in
      let q : p + 1 + 2 ≡ p + 3 = omega arith in
      let a : r.0 ≡ u16_of s (p + 1) = e.first in
      let b : r.1 ≡ u16_of s (p + 1 + 2) = e.second ∙ ap (u16_of s) (sym q) in
      ap₂ (λ (a b : ℕ). ok (f a b)) a b ∙ sym (ap ok (pair_read f s (p + 1) x.stands.reads).is) ∙ sym x.is
