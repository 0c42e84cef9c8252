-- The laws of the pushes, which walk the list twice: first every push is weighed, and only where all of them fit are they written.
use mathlib.Core.List.{List, [], ◌∷◌}
use Rattle.std.specs.Prelude.{◌≡◌, Ok, Err, ℕ, ◌+◌, ◌-◌, ◌≤◌, ◌<◌, take, drop}
use Rattle.std.proofs.Math.Path.{refl}
use Rattle.std.proofs.Common.{ap, sym, ◌∙◌, arith, length-drop, length-take-le}
use Rattle.std.proofs.Math.ListN.{length}
use borrow.Rule.Slice.PartMut.{put_mid}
use Rattle.status.specs.declared.StatusCode.{StatusCode}
use Rattle.status.specs.declared.StatusCode.TheVariants.{NO_ROOM}
use Rattle.definitions.specs.Result.{Result, ok, err, ◌>>?◌}
use Rattle.definitions.specs.SignatureToken.{SignatureToken, Signature, arguments, encode, encode_all, le16}
use Rattle.definitions.specs.Substitution.{instantiate}
use Rattle.definitions.specs.Machine.{push_each, run}
use Rattle.definitions.specs.Places.{At, TypeAt}
use Rattle.theorems.specs.AtLaws.{at_front, at_back}
use Rattle.signature_token.specs.declared.SignatureView.{SignatureView}
use Rattle.record_views.specs.Reread.{types_in}
use Rattle.record_views.specs.Records.{TypesIn}
use Rattle.substitution.specs.declared.Size.{Size}
use Rattle.type_places.specs.Arguments.{Arguments}
use Rattle.substitution.specs.Instantiate.{filled, instantiated, not_instantiated}
use Rattle.substitution.specs.Filling.{Room}
use Rattle.substitution.specs.Size.{SizeAt, capped, not_sized, was}
use Rattle.substitution_writer.specs.declared.Reached.{Reached}
use Rattle.substitution_writer.specs.Write.{WroteAt}
use Rattle.type_stack.specs.Spliced.{spliced, length_spliced, lent}
use Rattle.type_stack.specs.Held.{Holds, Stacked, entered, length_entry}
use Rattle.type_stack.specs.Pushing.{sealed, push_entered}
use Rattle.type_stack.specs.Leading.{Leads, Weighs, Stuck, leads_here, leads_on, leads_done, stuck_on, stuck_refused}
use Rattle.type_stack.specs.Listed.{write_each, weigh_each, stuck_each, stuck_each_bad}
use Rattle.type_stack.specs.Answers.{Stepped}
use Rattle.list_steps.specs.Forms.{PushesEach}

-- ── the words ──

-- f makes a type of each, and there is room for all their entries, the first at w
pub data Fit (f : SignatureToken → Result SignatureToken) (room : ℕ) : ℕ → Signature → Type 0 where
  none : {w : ℕ} → Fit f room w []
  more : {w : ℕ} {t u : SignatureToken} {ts : Signature} → f t ≡ ok u → w + (length (encode u) + 2) ≤ room → Fit f room (w + (length (encode u) + 2)) ts → Fit f room w (t ∷ ts)

-- the types of the list, their parameters replaced, fit
pub record AllFit (room w : ℕ) (list : SignatureView) (args places : List ℕ) : Type 0 where
  pub is : (p : TypesIn list) (q : Arguments args places) → Fit (λ t. instantiate t q.subst) room w p.types

-- what weighing the pushes of ts tells: they fit, or they are refused
abbrev pub Weighed : ℕ → ℕ → (SignatureToken → Result SignatureToken) → Signature → Stepped → Type 0
Weighed room w f ts (Ok v) = Fit f room w ts
Weighed room w f ts (Err y) = Stuck room w (push_each f ts) y

pub record WeighsEach (room w : ℕ) (list : SignatureView) (args places : List ℕ) (r : Stepped) : Type 0 where
  pub is : (p : TypesIn list) (q : Arguments args places) → Weighed room w (λ t. instantiate t q.subst) p.types r

-- ── a walk along the list ──

-- the types of a list of n after the first i stand at p, and T holds of them
pub record Passed (s : List ℕ) (n p i : ℕ) (T : Signature → Type 0) : Type 0 where
  pub others : Signature
  pub counted : length others ≡ n - i
  pub stands : At s p (encode_all (arguments others))
  pub state : T others

-- the first of them, and the rest
record Turn (s : List ℕ) (n p i : ℕ) (T : Signature → Type 0) : Type 0 where
  first : TypeAt s p
  rest : Signature
  counted : length rest ≡ n - (i + 1)
  stands : At s (p + length (encode first.type)) (encode_all (arguments rest))
  state : T (first.type ∷ rest)

passed_start : {list : SignatureView} (k : TypesIn list) {T : Signature → Type 0} → T k.types → Passed list.types.bytes.now list.types.count list.types.at 0 T
passed_start k z = record { others = k.types; counted = omega (arith, k.are.counted); stands = k.are.stands; state = z }

module _ {s : List ℕ} {n p i : ℕ} {T : Signature → Type 0} (h : Passed s n p i T) where
  passed_done : n ≤ i → T []
  passed_done l = go h.others h.counted h.state
    where
      go : (ts : Signature) → length ts ≡ n - i → T ts → T []
      go [] c z = z
      go (t ∷ ts) c z = absurd (omega arith)

  turn : i < n → Turn s n p i T
  unfolding arguments encode_all
  turn l = go h.others h.counted h.stands h.state
    where
      go : (ts : Signature) → length ts ≡ n - i → At s p (encode_all (arguments ts)) → T ts → Turn s n p i T
      go [] c a z = absurd (omega arith)
      go (t ∷ ts) c a z = record {
        first = record { type = t; stands = at_front (encode t) (encode_all (arguments ts)) a };
        rest = ts;
        counted = omega arith;
        stands = at_back (encode t) (encode_all (arguments ts)) a;
        state = z;
      }

turn_next : {s : List ℕ} {n p i e : ℕ} {T T' : Signature → Type 0} (k : Turn s n p i T) → e ≡ p + length (encode k.first.type) → T' k.rest → Passed s n e (i + 1) T'
turn_next k e z = record { others = k.rest; counted = k.counted; stands = rw e k.stands; state = z }

-- ── a size at its turn ──

-- of the type t at p, which ends at `next`, a type of len bytes is made
record Sized (t : SignatureToken) (subst : Signature) (p next len : ℕ) : Type 0 where
  type : SignatureToken
  here : instantiate t subst ≡ ok type
  bytes : filled t subst ≡ ok (encode type)
  ends : next ≡ p + length (encode t)
  long : len ≡ capped (length (encode type))

module _ {s : List ℕ} {p : ℕ} {args places : List ℕ} (k : TypeAt s p) (q : Arguments args places) where
  size_made : {z : Size} → SizeAt s p args places (Ok z) → Sized k.type q.subst p z.next z.len
  size_made m =
      let x = was m k q in
      let u = instantiated k.type q.subst x.here in
      record { type = u.type; here = u.here; bytes = x.here ∙ ap ok u.is; ends = x.ends; long = omega (arith, x.long, ap length u.is) }

  size_refused : {status : StatusCode} → SizeAt s p args places (Err status) → instantiate k.type q.subst ≡ err status
  size_refused m = not_instantiated k.type q.subst (not_sized 0 (p + length (encode k.type)) (filled k.type q.subst) (m.is k q))

-- ── weighing ──

-- the pushes of ts, from a stack of weight w, come to those of `others` at weight v
pub record Left (room w : ℕ) (f : SignatureToken → Result SignatureToken) (ts : Signature) (v : ℕ) (others : Signature) : Type 0 where
  pub leads : Leads (Weighs w) (run room (push_each f ts)) (Weighs v) (run room (push_each f others))
  pub fit : Fit f room v others → Fit f room w ts

-- of the list the first i are weighed, and the others stand at p
pub record Weighing (room w : ℕ) (list : SignatureView) (args places : List ℕ) (v p i : ℕ) : Type 0 where
  pub low : v ≤ room
  pub is : (k : TypesIn list) (q : Arguments args places) → Passed list.types.bytes.now list.types.count p i (Left room w (λ t. instantiate t q.subst) k.types v)

module _ {room w : ℕ} {list : SignatureView} {args places : List ℕ} where
  pub weighing_start : w ≤ room → Weighing room w list args places w list.types.at 0
  weighing_start l = record { low = l; is = λ k q. passed_start k (record { leads = leads_here; fit = λ z. z }) }

  module _ {v p i : ℕ} (h : Weighing room w list args places v p i) where
    pub weighing_done : list.types.count ≤ i → WeighsEach room w list args places (Ok v)
    weighing_done l = record { is = λ k q. (passed_done (h.is k q) l).fit none }

    module _ (l : i < list.types.count) where
      -- what a turn needs
      pub weighing_type : Arguments args places → TypeAt list.types.bytes.now p
      weighing_type q = (turn (h.is (types_in list) q) l).first

      pub weighing_refused : {status : StatusCode} → SizeAt list.types.bytes.now p args places (Err status) → WeighsEach room w list args places (Err status)
      weighing_refused m = record {
        is = λ k q.
            let t = turn (h.is k q) l in
            stuck_on t.state.leads (stuck_each_bad _ _ _ (size_refused t.first q m));
      }

      module _ {z : Size} (m : SizeAt list.types.bytes.now p args places (Ok z)) where
        pub weighing_small : Arguments args places → z.len ≤ 65536
        weighing_small q = omega (arith, (size_made (turn (h.is (types_in list) q) l).first q m).long)

        pub weighing_full : room - v < z.len + 2 → WeighsEach room w list args places (Err NO_ROOM)
        weighing_full g = record {
          is = λ k q.
              let t = turn (h.is k q) l in
              let u = size_made t.first q m in
              stuck_on t.state.leads (stuck_each _ _ _ u.here (omega (arith, u.long, h.low)));
        }

        pub weighing_next : room ≤ 65535 → z.len + 2 ≤ room - v → Weighing room w list args places (v + (z.len + 2)) z.next (i + 1)
        weighing_next r g = record {
          low = omega (arith, h.low);
          is = λ k q.
              let t = turn (h.is k q) l in
              let u = size_made t.first q m in
              let x : z.len ≡ length (encode u.type) = omega (arith, u.long) in
              let y : v + (length (encode u.type) + 2) ≤ room = omega (arith, h.low) in
              turn_next t u.ends (record {
                leads = leads_on t.state.leads (rw x (weigh_each _ _ _ u.here y));
                fit = λ c. t.state.fit (more u.here y (rw x at c));
              });
        }

-- ── writing ──

-- the pushes of ts onto the w bytes of a have come to those of `others` onto the v bytes of b, which fit
pub record Written (a : List ℕ) (w : ℕ) (f : SignatureToken → Result SignatureToken) (ts : Signature) (b : List ℕ) (v : ℕ) (others : Signature) : Type 0 where
  pub leads : Leads (Holds a w) (run (length a) (push_each f ts)) (Holds b v) (run (length a) (push_each f others))
  pub fit : Fit f (length a) v others

-- of the list the first i are written, and the others stand at p
pub record Writing (a : List ℕ) (w : ℕ) (list : SignatureView) (args places : List ℕ) (b : List ℕ) (v p i : ℕ) : Type 0 where
  pub same : length b ≡ length a
  pub low : v ≤ length b
  pub is : (k : TypesIn list) (q : Arguments args places) → Passed list.types.bytes.now list.types.count p i (Written a w (λ t. instantiate t q.subst) k.types b v)

-- the first of those that fit: what is made of it, for which there is room, and the others
record FirstFits (f : SignatureToken → Result SignatureToken) (room w : ℕ) (t : SignatureToken) (ts : Signature) : Type 0 where
  type : SignatureToken
  here : f t ≡ ok type
  fits : w + (length (encode type) + 2) ≤ room
  others : Fit f room (w + (length (encode type) + 2)) ts

first_fits : {f : SignatureToken → Result SignatureToken} {room w : ℕ} {t : SignatureToken} {ts : Signature} → Fit f room w (t ∷ ts) → FirstFits f room w t ts
first_fits (more {u = u} e l h) = record { type = u; here = e; fits = l; others = h }

filled_made : (t : SignatureToken) (subst : Signature) {u : SignatureToken} → instantiate t subst ≡ ok u → filled t subst ≡ ok (encode u)
unfolding filled ◌>>?◌
filled_made t subst e = rw e

module _ {a : List ℕ} {w : ℕ} {list : SignatureView} {args places : List ℕ} where
  pub writing_start : Stacked a w → AllFit (length a) w list args places → Writing a w list args places a w list.types.at 0
  writing_start k h = record { same = refl; low = k.holds.fits; is = λ k q. passed_start k (record { leads = leads_here; fit = h.is k q }) }

  module _ {b : List ℕ} {v p i : ℕ} (h : Writing a w list args places b v p i) where
    pub writing_done : list.types.count ≤ i → PushesEach list args places a w b (Ok v)
    unfolding push_each
    writing_done l = record { steps = λ k q. leads_done refl (passed_done (h.is k q) l).leads }

    module _ (l : i < list.types.count) (small : length a ≤ 65535) where
      module _ (k : TypesIn list) (q : Arguments args places) where
        made : FirstFits (λ t. instantiate t q.subst) (length a) v (turn (h.is k q) l).first.type (turn (h.is k q) l).rest
        made = first_fits (turn (h.is k q) l).state.fit

        abbrev room : Room list.types.bytes.now p args places 0 (length (take (length b - v) (drop v b)))
        room = record {
          filling = record { from = (turn (h.is k q) l).first; list = q; bytes = encode made.type; is = filled_made (turn (h.is k q) l).first.type q.subst made.here };
          fits = omega (arith, made.fits, h.same, length-take-le (length b - v) (drop v b) (omega (arith, length-drop v b)));
        }

      -- what the writer needs
      pub writing_room : Arguments args places → Room list.types.bytes.now p args places 0 (length (take (length b - v) (drop v b)))
      writing_room q = room (types_in list) q

      -- the writer was lent the free end
      module _ {d : List ℕ} {r : Reached} (o : WroteAt list.types.bytes.now p args places (take (length b - v) (drop v b)) d r) where
        module _ (k : TypesIn list) (q : Arguments args places) where
          exact : r.end ≡ length (encode (made k q).type)
          exact = o.reached (room k q).filling

          fits : (v + (r.end + 2) ≤ length b) × (r.end ≤ 65535)
          fits = (omega (arith, exact, (made k q).fits, h.same), omega (arith, exact, (made k q).fits))

          -- its bytes were made an entry
          written : {c : List ℕ} → c ≡ spliced (put_mid v (length b - v) b d) (v + r.end) (le16 r.end) → c ≡ entered b v (encode (made k q).type)
          written j = sealed b v (encode (made k q).type) exact fits.0 (lent b (encode (made k q).type) v (o.is (room k q))) j

        pub writing_fits : Arguments args places → (v + (r.end + 2) ≤ length b) × (r.end ≤ 65535)
        writing_fits q = fits (types_in list) q

        pub writing_next :
            Arguments args places → {c : List ℕ} {x : ℕ} → x ≡ v + (r.end + 2) →
            c ≡ spliced (put_mid v (length b - v) b d) (v + r.end) (le16 r.end) → Writing a w list args places c x r.next (i + 1)
        writing_next q {c} {x} n j =
            let k = types_in list in
            let g : length c ≡ length b = ap length (written k q j) ∙ length_spliced b v _ (omega (arith, length_entry (encode (made k q).type), exact k q, (fits k q).0)) in
            record {
              same = g ∙ h.same;
              low = omega (arith, (fits k q).0);
              is = λ k q.
                  let t = turn (h.is k q) l in
                  let u = made k q in
                  let y : x ≡ v + (length (encode u.type) + 2) = omega (arith, exact k q) in
                  turn_next t (o.ends (room k q).filling) (record {
                    leads = leads_on t.state.leads (write_each _ _ _ u.here ((push_entered (encode u.type) (exact k q) (fits k q).0 n (written k q j)).steps u.type refl) (sym h.same) refl);
                    fit = rw y u.others;
                  });
            }

-- ── the two ──

module _ {w : ℕ} {list : SignatureView} {args places : List ℕ} where
  pub weighed_fit : {room v : ℕ} → WeighsEach room w list args places (Ok v) → AllFit room w list args places
  weighed_fit h = record { is = h.is }

  -- nothing is written where they don't fit
  pub weighed_stuck : {a : List ℕ} {y : StatusCode} → WeighsEach (length a) w list args places (Err y) → PushesEach list args places a w a (Err y)
  weighed_stuck h = record { steps = λ p q. stuck_refused (h.is p q) }
