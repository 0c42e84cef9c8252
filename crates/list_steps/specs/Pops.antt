-- The laws of the pops: how an operand compares with what is made of a type of a list, what that answers of the pop, and the loop, which
-- goes from the last place to the first.
use Rattle.std.specs.Prelude.{Bool, true, false, Result as Answer, Ok, Err, List, [], ◌∷◌, ◌++◌, reverse, ◌≡◌, ℕ, zero, suc, ◌-◌, ◌≤◌, ◌<◌, length, take, get_or}
use Rattle.std.proofs.lemmas.List.{reverse-append}
use Rattle.std.proofs.Math.Path.{refl}
use Rattle.std.proofs.Common.{ap, ◌∙◌}
use native.Mathlib.Omega.{arith}
use Rattle.status.specs.declared.StatusCode.{StatusCode}
use Rattle.definitions.specs.Result.{Result, ok, err}
use Rattle.definitions.specs.SignatureToken.{SignatureToken, Signature, same}
use Rattle.definitions.specs.Substitution.{instantiate}
use Rattle.definitions.specs.Machine.{◌>>=◌, look, check, pop_one, pop_each, run}
use Rattle.definitions.specs.Places.{TypeAt, Standing, none, more}
use Rattle.signature_token.specs.declared.SignatureView.{SignatureView}
use Rattle.signature_token.specs.declared.TypeRef.{TypeRef}
use Rattle.signature_token.specs.Same.{SameAt, spanned}
use Rattle.type_places.specs.Arguments.{Arguments, IsPlaced}
use Rattle.substitution_comparison.specs.Compare.{ComparedAt, compared}
use Rattle.type_stack.specs.Held.{Stacked, Holds}
use Rattle.type_stack.specs.Tops.{TopOf}
use Rattle.type_stack.specs.Stepping.{StepsTo, done_here, look_then, look_bad, check_last, check_last_bad, pop_then, and_stacked}
use Rattle.type_stack.specs.Leading.{Leads, leads_here, leads_on, leads_then, leads_done}
use Rattle.type_stack.specs.Listed.{pop_each_law, pop_each_bad}
use Rattle.type_stack.specs.Answers.{Stepped}
use Rattle.type_stack.specs.declared.Entry.{Entry}
use Rattle.operand_steps.specs.Operands.{span}
use Rattle.list_steps.specs.Forms.{ComparedWith, PopsEach}

-- ── a comparison ──

module _ {a : List ℕ} {x len : ℕ} {s : List ℕ} {at : ℕ} where
  pub instantiated_compared : {args slots : List ℕ} {r : Answer Bool StatusCode} (q : Arguments args slots) → ComparedAt a x s at args slots r → ComparedWith (λ t. instantiate t q.subst) a x len s at r
  instantiated_compared q k = record { is = λ p t. k.is (spanned p) t q }

  pub written_compared : {b : Bool} → SameAt a x len s at b → ComparedWith ok a x len s at (Ok b)
  unfolding compared
  written_compared k = record { is = λ p t. ap Ok (k p t) }

-- ── one pop ──

-- what a pop answers whose operand compares so, where w is what is below it
abbrev pub answered : StatusCode → ℕ → Answer Bool StatusCode → Stepped
answered status w (Ok true) = Ok w
answered status w (Ok false) = Err status
answered status w (Err why) = Err why

compared_steps : (t : SignatureToken) (g : Result SignatureToken) (y : StatusCode) {a : List ℕ} {w : ℕ} → StepsTo (look g >>= (λ u. check (same t u) y)) a w a (answered y w (compared t g))
unfolding compared
compared_steps t (ok u) y {a} {w} = look_then _ refl (go (same t u))
  where
    go : (b : Bool) → StepsTo (check b y) a w a (answered y w (Ok b))
    go true = check_last y refl
    go false = check_last_bad refl
compared_steps t (err z) y = look_bad _ refl

module _ {a : List ℕ} {w : ℕ} {x : Entry} where
  pub pop_compared :
      TopOf a w (Ok x) → {f : SignatureToken → Result SignatureToken} {s : List ℕ} {at : ℕ} {v : Answer Bool StatusCode} → ComparedWith f a x.start x.len s at v →
      (y : StatusCode) (p : TypeAt s at) → StepsTo (pop_one y f p.type) a w a (answered y x.start v)
  unfolding pop_one
  pop_compared k {f} m y p = pop_then k (λ t h. rw (m.is (span h) p) (compared_steps t (f p.type) y))

-- ── the loop ──

standing_all : {s places : List ℕ} {ts : Signature} → Standing s places ts → take (length places) ts ≡ ts
standing_all none = refl
standing_all (more {t = t} h w) = ap (λ (us : Signature). t ∷ us) (standing_all w)

-- the last of the first j + 1 types
record Last (s places : List ℕ) (ts : Signature) (j : ℕ) : Type 0 where
  here : TypeAt s (get_or places j 0)
  is : take (suc j) ts ≡ take j ts ++ here.type ∷ []

last : {s places : List ℕ} {ts : Signature} (j : ℕ) → j < length places → Standing s places ts → Last s places ts j
last j l none = absurd (omega arith)
last zero l (more {t = t} h w) = record { here = record { type = t; stands = h }; is = refl }
last (suc j) l (more {t = t} h w) = let k = last j (omega arith) w in record { here = k.here; is = ap (λ (us : Signature). t ∷ us) k.is }

-- of the types at the places all but the first i are popped
pub record Popping (f : SignatureToken → Result SignatureToken) (s places : List ℕ) (y : StatusCode) (a : List ℕ) (w v i : ℕ) : Type 0 where
  pub under : Stacked a v
  pub most : i ≤ length places
  pub leads :
      (p : Arguments s places) → Leads (Holds a w) (run (length a) (pop_each y f (reverse p.subst))) (Holds a v) (run (length a) (pop_each y f (reverse (take i p.subst))))

-- the types at the places are popped, the last first
abbrev pub PopsPlaces : (SignatureToken → Result SignatureToken) → List ℕ → List ℕ → StatusCode → List ℕ → ℕ → Stepped → Type 0
PopsPlaces f s places y a w r = (p : Arguments s places) → StepsTo (pop_each y f (reverse p.subst)) a w a r

module _ {f : SignatureToken → Result SignatureToken} {s places : List ℕ} {y : StatusCode} {a : List ℕ} {w : ℕ} where
  pub popping_start : Stacked a w → Popping f s places y a w w (length places)
  popping_start k = record { under = k; most = omega arith; leads = λ p. rw (standing_all p.standing) leads_here }

  module _ {v i : ℕ} (h : Popping f s places y a w v i) where
    pub popping_end : i ≤ 0 → PopsPlaces f s places y a w (Ok v)
    unfolding pop_each
    popping_end k p = let e : i ≡ 0 = omega arith in leads_done refl (rw e at (h.leads p))

    module _ (k : 0 < i) where
      turn : (p : Arguments s places) → Last s places p.subst (i - 1)
      turn p = last (i - 1) (omega (arith, h.most)) p.standing

      popping_at :
          (p : Arguments s places) →
          Leads (Holds a w) (run (length a) (pop_each y f (reverse p.subst))) (Holds a v) (run (length a) (pop_each y f ((turn p).here.type ∷ reverse (take (i - 1) p.subst))))
      popping_at p =
          let e : i ≡ suc (i - 1) = omega arith in
          let z : reverse (take i p.subst) ≡ (turn p).here.type ∷ reverse (take (i - 1) p.subst) =
          ap (λ (n : ℕ). reverse (take n p.subst)) e ∙ ap reverse (turn p).is ∙ reverse-append (take (i - 1) p.subst) ((turn p).here.type ∷ []) in
          rw (← z) (h.leads p)

      module _ {t : TypeRef} (e : IsPlaced s places (i - 1) t) {r : Stepped} (o : (p : TypeAt t.bytes.now t.at) → StepsTo (pop_one y f p.type) a v a r) where
        popped : (p : Arguments s places) → StepsTo (pop_one y f (turn p).here.type) a v a r
        popped p = (rw (e.bytes, e.place) at o) (turn p).here

        pub popping_next : {z : ℕ} → Arguments s places → r ≡ Ok z → Popping f s places y a w z (i - 1)
        popping_next p j = record {
          under = and_stacked (popped p) h.under j refl;
          most = omega (arith, h.most);
          leads = λ p. leads_on (popping_at p) (pop_each_law y _ _ _ (popped p) refl j);
        }

        pub popping_bad : {z : StatusCode} → r ≡ Err z → PopsPlaces f s places y a w (Err z)
        popping_bad j p = leads_then (popping_at p) (pop_each_bad y _ _ _ (popped p) j)

-- a list of no types
pub pops_none : {f : SignatureToken → Result SignatureToken} {y : StatusCode} {a : List ℕ} {w : ℕ} {list : SignatureView} → list.types.count ≡ 0 → PopsEach f list y a w (Ok w)
unfolding pop_each
pops_none {f} {y} {a} {w} e = record { steps = λ p. go p.types (omega (arith, p.are.counted)) }
  where
    go : (ts : Signature) → length ts ≡ 0 → StepsTo (pop_each y f (reverse ts)) a w a (Ok w)
    go [] z = done_here
    go (t ∷ ts) z = absurd (omega arith)
