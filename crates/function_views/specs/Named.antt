-- The three signatures that the function's record names, and the types that a look-up of one answers.
use Rattle.std.specs.Prelude.{List, [], ◌∷◌, ◌≡◌, ℕ, ◌+◌, ◌<◌, ◌≤◌, zero, suc, length, get_or, Bool, true, false, ltb}
use Rattle.std.proofs.Math.Path.{refl}
use Rattle.std.proofs.Common.{sym, ap, ◌∙◌, arith, ltb-true}
use Rattle.definitions.specs.Result.{ok, at}
use Rattle.definitions.specs.SignatureToken.{Signature}
use Rattle.definitions.specs.CompiledUnit as defs
use Rattle.definitions.specs.Reader.{compiled_unit, items, ability, signature_of, function_view}
use Rattle.record_views.specs.Records.{ListIs, ListHere}
use Rattle.unit.specs.declared.View.{View}
use Rattle.signature_token.specs.declared.SignatureView.{SignatureView}
use Rattle.std.proofs.Math.Decide.{dec_le}
use Rattle.status.specs.declared.StatusCode.TheVariants.{VALUE}
use Rattle.definitions.specs.Reading.{read, here, need, byte, u16, many}
use Rattle.record_reader.specs.Apart.{u16_of, parts, made, u16_read}
use Rattle.unit.specs.Standing.{then-parts, here_is, needed}
use Rattle.unit.specs.Views.{UnitRead, view_of}
use Rattle.unit_tables.specs.declared.UnitView.{UnitView}
use Rattle.unit_tables.specs.Compiled.{unit_read, compiled, signatures_fit}
use Rattle.unit_views.specs.Lookups.{signature_listed}
use Rattle.function_views.specs.declared.FunctionTypes.{FunctionTypes}
use Rattle.function_views.specs.declared.FunctionTypes.TheVariants.{Parameters, Return, Locals}
use Rattle.unit_tables.specs.Tables.{past, stand, signatures_in, unit_short, EntryIs, found}

-- the list of the function that is meant
abbrev pub types_of : FunctionTypes → defs.FunctionView → Signature
types_of Parameters v = v.parameters
types_of Return v = v.return
types_of Locals v = v.locals

-- where its signature's index stands in the function's record
abbrev pub offset_of : FunctionTypes → ℕ
offset_of Parameters = 1
offset_of Return = 3
offset_of Locals = 5

-- the index of the signature ts stands at p
pub record Names (s : List ℕ) (l : List Signature) (p : ℕ) (ts : Signature) : Type 0 where
  pub within : p + 1 < length s
  pub is : at l (u16_of s p) ≡ ok ts

-- a signature was read at p, up to e
pub record SignatureRead (s : List ℕ) (l : List Signature) (p : ℕ) (ts : Signature) (e : ℕ) : Type 0 where
  pub names : Names s l p ts
  pub next_at : e ≡ p + 2

nth_is : (l : List Signature) (i : ℕ) → i < length l → at l i ≡ ok (get_or l i [])
unfolding at
nth_is [] i h = absurd (omega arith)
nth_is (x ∷ l) zero h = refl
nth_is (x ∷ l) (suc i) h = nth_is l i (omega arith)

need_stays : (t : Bool) (s : List ℕ) (p at : ℕ) {x : Unit {0}} {e : ℕ} → need t VALUE p s at ≡ read x e → at ≡ e
unfolding need
need_stays true s p at h = cc
need_stays false s p at h = let z : ◌≡◌ {A = ℕ} 0 1 = cc in absurd (omega arith)

pub signature_read : (l : List Signature) (s : List ℕ) (p : ℕ) {ts : Signature} {e : ℕ} → signature_of l s p ≡ read ts e → SignatureRead s l p ts e
unfolding signature_of
signature_read l s p {ts} {e} h =
    let a = parts here _ s p h in
    let b = parts u16 _ s a.middle a.second in
    let c = then-parts (need (ltb b.value (length l)) VALUE a.value) _ s b.middle b.second in
    let m = made s c.second in
    let x = here_is s p a.first in
    let r = u16_read s p (ap (u16 s) x.1 ∙ b.first) in
    let k = ltb-true b.value (length l) (needed _ VALUE s a.value b.middle c.first) in
    let j : u16_of s p < length l = rw r.is at k in
    record {
      names = record { within = r.within; is = nth_is l (u16_of s p) j ∙ ap ok (ap (λ (i : ℕ). get_or l i []) (sym r.is) ∙ m.0) };
      next_at = sym m.1 ∙ sym (need_stays _ s a.value b.middle c.first) ∙ r.next_at;
    }

-- the three signatures of the function, the command of whose record stands at p
pub record FunctionRead (s : List ℕ) (l : List Signature) (p : ℕ) (v : defs.FunctionView) : Type 0 where
  pub parameters : Names s l (p + 1) v.parameters
  pub return : Names s l (p + 3) v.return
  pub locals : Names s l (p + 5) v.locals

function_read : (l : List Signature) (s : List ℕ) (p : ℕ) {v : defs.FunctionView} {e : ℕ} → function_view l s (p + 1) ≡ read v e → FunctionRead s l p v
unfolding function_view
function_read l s p h =
    let a = parts (signature_of l) _ s (p + 1) h in
    let b = parts (signature_of l) _ s a.middle a.second in
    let c = parts (signature_of l) _ s b.middle b.second in
    let d = parts byte _ s c.middle c.second in
    let f = parts (many d.value ability) _ s d.middle d.second in
    let x = signature_read l s (p + 1) a.first in
    let m : p + 3 ≡ a.middle = omega (arith, x.next_at) in
    let y = signature_read l s (p + 3) (ap (signature_of l s) m ∙ b.first) in
    let n : p + 5 ≡ b.middle = omega (arith, y.next_at) in
    let z = signature_read l s (p + 5) (ap (signature_of l s) n ∙ c.first) in
    rw (← (made s f.second).0) (record { parameters = x.names; return = y.names; locals = z.names })

module _ {s index : List ℕ} {view : View} (u : UnitRead s index view) where
  function_at : FunctionRead s (compiled_unit u.decoded).signatures view.function (compiled_unit u.decoded).function
  unfolding view_of compiled_unit
  function_at = rw u.viewed (function_read (items u.decoded.signatures) s u.decoded.function.start (stand u).function.1)

module _ (unit : UnitView) (which : FunctionTypes) where
  names_at : Names unit.bytes.now (compiled unit).signatures (unit.view.function + offset_of which) (types_of which (compiled unit).function)
  names_at = go which
    where
      go : (w : FunctionTypes) → Names unit.bytes.now (compiled unit).signatures (unit.view.function + offset_of w) (types_of w (compiled unit).function)
      go Parameters = (function_at (unit_read unit)).parameters
      go Return = (function_at (unit_read unit)).return
      go Locals = (function_at (unit_read unit)).locals

  -- the index is one of the unit's bytes
  pub named_room : unit.view.function + offset_of which + 1 < 32768
  named_room = let h = unit_short (unit_read unit) in omega (arith, names_at.within)

  pub named_within : unit.view.function + offset_of which + 1 < length unit.bytes.now
  named_within = names_at.within

  module _ {i : ℕ} (e : i ≡ u16_of unit.bytes.now (unit.view.function + offset_of which)) where
    named_is : at (compiled unit).signatures i ≡ ok (types_of which (compiled unit).function)
    named_is = ap (at (compiled unit).signatures) e ∙ names_at.is

    -- and one of the table
    pub named_below : i < unit.view.signatures.count
    named_below = go (dec_le unit.view.signatures.count i)
      where
        go : Dec (unit.view.signatures.count ≤ i) → i < unit.view.signatures.count
        go (yes h) = let z : ◌≡◌ {A = ℕ} 0 1 = let y = past (signatures_in (unit_read unit)) h in let x = named_is in cc in absurd (omega arith)
        go (no h) = omega arith

    pub named_here :
        {p : ℕ} {r : SignatureView} → EntryIs unit.index.now unit.view.signatures i p → ((k : ListHere unit.bytes.now (p + 1)) → ListIs k.types r) →
        ListIs (types_of which (compiled unit).function) r
    unfolding signature_listed compiled_unit
    named_here w l =
        let x = found (signatures_in (unit_read unit)) w in
        let y = named_is in
        let z = x.is in
        let q : x.item ≡ types_of which (compiled unit).function = cc in
        rw q at (l (signature_listed unit i w))

pub ruleset named_laws = (signatures_fit, signature_listed, named_room, named_within, named_below)
