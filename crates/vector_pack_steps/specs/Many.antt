-- Many pops and many pushes of one type: what the push of many promises, and the laws of the two loops.
use Rattle.std.specs.Prelude.{◌≡◌, List, ℕ, suc, ◌+◌, ◌-◌, ◌*◌, ◌/◌, ◌≤◌, ◌<◌, length, Ok, Err}
use Rattle.std.proofs.Math.Path.{refl}
use Rattle.std.proofs.Common.{ap, sym, ◌∙◌, div-lt_iff_lt-mul, le-div_iff_mul-le, suc-mul}
use native.Mathlib.Omega.{arith}
use Rattle.status.specs.declared.StatusCode.{StatusCode}
use Rattle.status.specs.declared.StatusCode.TheVariants.{NO_ROOM}
use Rattle.definitions.specs.SignatureToken.{SignatureToken, encode}
use Rattle.definitions.specs.Machine.{pop_n, push_n, run}
use Rattle.type_stack.specs.Spliced.{length_spliced}
use Rattle.type_stack.specs.Held.{Holds, Stacked, entered, length_entry}
use Rattle.type_stack.specs.Tops.{TopOf, topped}
use Rattle.type_stack.specs.Stepping.{StepsTo}
use Rattle.type_stack.specs.Pushing.{push_entered}
use Rattle.type_stack.specs.Leading.{Leads, leads_here, leads_on, leads_done, leads_then, stuck_refused}
use Rattle.type_stack.specs.Listed.{pop_n_law, pop_n_none, write_n, stuck_n}
use Rattle.type_stack.specs.Answers.{Stepped}
use Rattle.type_stack.specs.declared.Entry.{Entry}

-- the type of these bytes is pushed n times
abbrev pub PushesMany : ℕ → List ℕ → List ℕ → ℕ → List ℕ → Stepped → Type 0
PushesMany n bs a w b r = (t : SignatureToken) → encode t ≡ bs → StepsTo (push_n n t) a w b r

-- ── pops ──

-- of n types that are to be popped, i are popped
pub record Popping (a : List ℕ) (w n v i : ℕ) : Type 0 where
  pub under : Stacked a v
  pub leads : Leads (Holds a w) (run (length a) (pop_n n)) (Holds a v) (run (length a) (pop_n (n - i)))

pub popping_start : {a : List ℕ} {w n : ℕ} → Stacked a w → Popping a w n w 0
popping_start {n = n} k = let e : n - 0 ≡ n = omega arith in record { under = k; leads = rw e leads_here }

module _ {a : List ℕ} {w n v i : ℕ} (h : Popping a w n v i) where
  popping_at : i < n → Leads (Holds a w) (run (length a) (pop_n n)) (Holds a v) (run (length a) (pop_n (suc (n - (i + 1)))))
  popping_at k = let e : suc (n - (i + 1)) ≡ n - i = omega arith in rw e h.leads

  pub popping_next : {e : Entry} → TopOf a v (Ok e) → i < n → Popping a w n e.start (i + 1)
  popping_next p k = record { under = (topped h.under p).under; leads = leads_on (popping_at k) (pop_n_law (n - (i + 1)) (length a) p) }

  pub popping_none : {y : StatusCode} → TopOf a v (Err y) → i < n → StepsTo (pop_n n) a w a (Err y)
  popping_none p k = leads_then (popping_at k) (pop_n_none (n - (i + 1)) p)

  pub popping_end : n ≤ i → StepsTo (pop_n n) a w a (Ok v)
  unfolding pop_n
  popping_end k = let e : n - i ≡ 0 = omega arith in leads_done refl (rw e at h.leads)

pub ruleset popping = (popping_start, popping_end)

-- ── pushes ──

-- the area b, whose first v bytes hold a stack, after i of n pushes of the type of these bytes
pub record Writing (bs : List ℕ) (a : List ℕ) (w n : ℕ) (b : List ℕ) (v i : ℕ) : Type 0 where
  pub same : length b ≡ length a
  pub room : v + (n - i) * (length bs + 2) ≤ length a
  pub leads : (t : SignatureToken) → encode t ≡ bs → Leads (Holds a w) (run (length a) (push_n n t)) (Holds b v) (run (length a) (push_n (n - i) t))

module _ (bs : List ℕ) {a : List ℕ} {w n : ℕ} (k : Stacked a w) where
  -- they don't all fit
  pub many_full : (length a - w) / (length bs + 2) < n → PushesMany n bs a w a (Err NO_ROOM)
  many_full f t i =
      let z = (div-lt_iff_lt-mul {k = length bs + 2} (omega arith)).0 f in
      let h = k.holds.fits in
      stuck_refused (stuck_n t n h (rw i (omega arith)))

  pub writing_start : n ≤ (length a - w) / (length bs + 2) → Writing bs a w n a w 0
  writing_start f =
      let h = k.holds.fits in
      let z = (le-div_iff_mul-le {k = length bs + 2} (omega arith)).0 f in
      let e : n - 0 ≡ n = omega arith in
      record { same = refl; room = rw e (omega arith); leads = λ t i. rw e leads_here }

module _ {bs a : List ℕ} {w n : ℕ} {b : List ℕ} {v i : ℕ} (h : Writing bs a w n b v i) where
  pub writing_room : i < n → v + (length bs + 2) ≤ length b
  writing_room k = let e : n - i ≡ suc (n - (i + 1)) = omega arith in let z = rw e at h.room in omega (arith, h.same, suc-mul (n - (i + 1)) (length bs + 2))

  pub writing_next : {d : List ℕ} {x : ℕ} → i < n → x ≡ v + (length bs + 2) → d ≡ entered b v bs → Writing bs a w n d x (i + 1)
  writing_next {d} {x} k p q =
      let f = writing_room k in
      let j : n - i ≡ suc (n - (i + 1)) = omega arith in
      let z = rw j at h.room in
      record {
        same = ap length q ∙ length_spliced b v _ (omega (arith, length_entry bs)) ∙ h.same;
        room = omega (arith, suc-mul (n - (i + 1)) (length bs + 2));
        leads = λ t g. leads_on (rw j at (h.leads t g)) (write_n t (n - (i + 1)) ((push_entered bs refl (omega arith) p q).steps t g) (sym h.same) refl);
      }

  pub writing_end : n ≤ i → PushesMany n bs a w b (Ok v)
  unfolding push_n
  writing_end k t g = let e : n - i ≡ 0 = omega arith in leads_done refl (rw e at (h.leads t g))

pub ruleset writing = (many_full, writing_end)
