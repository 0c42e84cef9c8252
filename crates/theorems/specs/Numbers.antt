-- Which numbers of document 01's table each pass can answer with: ranges, written once, and tests of them that compute. That one test
-- implies another is computed from the ranges too.
use Rattle.std.specs.Prelude.{Bool, true, false, ◌&&◌, ◌||◌, List, [], ◌∷◌, ◌≡◌, ℕ, ◌≤◌, T, leb}
use Rattle.std.proofs.Common.{arith, leb→le, le→leb}

pub record Range : Type 0 where
  pub from : ℕ
  pub to : ℕ

infix 80 ◌to◌
abbrev pub ◌to◌ : ℕ → ℕ → Range
◌to◌ a b = record { from = a; to = b }

abbrev pub among : List Range → ℕ → Bool
among [] n = false
among (r ∷ rs) n = (leb r.from n && leb n r.to) || among rs n

-- ── the numbers ──

-- a look-up in a table: OUT_OF_TABLE, and INVALID_OPERATION_IN_SCRIPT
abbrev pub table_refusals : List Range
table_refusals = 11 to 11 ∷ 16 to 16 ∷ []

-- what a step looks up or tests: all that it refuses with, but for the stack's own EMPTY_STACK and NO_ROOM
abbrev pub look_refusals : List Range
look_refusals = 11 to 11 ∷ 16 to 46 ∷ []

-- a step
abbrev pub step_refusals : List Range
step_refusals = 10 to 12 ∷ 16 to 46 ∷ []

-- a block's height
abbrev pub usage_refusals : List Range
usage_refusals = 11 to 11 ∷ 13 to 16 ∷ []

abbrev pub table_refusal : ℕ → Bool
table_refusal n = among table_refusals n

abbrev pub look_refusal : ℕ → Bool
look_refusal n = among look_refusals n

abbrev pub step_refusal : ℕ → Bool
step_refusal n = among step_refusals n

abbrev pub usage_refusal : ℕ → Bool
usage_refusal n = among usage_refusals n

-- the verdicts of the two passes, accepted being 0
abbrev pub type_number : ℕ → Bool
type_number n = among (0 to 0 ∷ step_refusals) n

abbrev pub usage_number : ℕ → Bool
usage_number n = among (0 to 0 ∷ usage_refusals) n

-- ── one test implies another ──

-- a range lies in one of the ranges; each of them does
abbrev covered : Range → List Range → Bool
covered r [] = false
covered r (c ∷ cs) = (leb c.from r.from && leb r.to c.to) || covered r cs

abbrev covers : List Range → List Range → Bool
covers [] cs = true
covers (r ∷ rs) cs = covered r cs && covers rs cs

both : (a b : Bool) → T (a && b) → T a × T b
both true b t = (tt, t)
both false b t = absurd t

and : (a b : Bool) → T a → T b → T (a && b)
and true b t t' = t'
and false b t t' = absurd t

either : {P : Type 0} (a b : Bool) → T (a || b) → (T a → P) → (T b → P) → P
either true b t f g = f tt
either false b t f g = g t

left : (a b : Bool) → T a → T (a || b)
left true b t = tt
left false b t = absurd t

right : (a b : Bool) → T b → T (a || b)
right true b t = tt
right false b t = t

covered_among : (r : Range) (cs : List Range) (n : ℕ) → T (covered r cs) → r.from ≤ n → n ≤ r.to → T (among cs n)
covered_among r [] n t l h = t
covered_among r (c ∷ cs) n t l h =
    either (leb c.from r.from && leb r.to c.to) (covered r cs) t
    (λ x.
    let (a, b) = both (leb c.from r.from) (leb r.to c.to) x in
    let l' : c.from ≤ n = omega (arith, leb→le c.from r.from a) in
    let h' : n ≤ c.to = omega (arith, leb→le r.to c.to b) in
    left (leb c.from n && leb n c.to) (among cs n) (and (leb c.from n) (leb n c.to) (le→leb c.from n l') (le→leb n c.to h')))
    (λ y. right (leb c.from n && leb n c.to) (among cs n) (covered_among r cs n y l h))

pub covers_among : (rs cs : List Range) → T (covers rs cs) → (n : ℕ) → T (among rs n) → T (among cs n)
covers_among [] cs t n m = absurd m
covers_among (r ∷ rs) cs t n m =
    let (c, t') = both (covered r cs) (covers rs cs) t in
    either (leb r.from n && leb n r.to) (among rs n) m
    (λ x. let (a, b) = both (leb r.from n) (leb n r.to) x in covered_among r cs n c (leb→le r.from n a) (leb→le n r.to b))
    (λ y. covers_among rs cs t' n y)

pub table_look : (n : ℕ) → T (table_refusal n) → T (look_refusal n)
table_look n t = covers_among table_refusals look_refusals tt n t

pub look_step : (n : ℕ) → T (look_refusal n) → T (step_refusal n)
look_step n t = covers_among look_refusals step_refusals tt n t

pub step_type : (n : ℕ) → T (step_refusal n) → T (type_number n)
step_type n t = covers_among step_refusals (0 to 0 ∷ step_refusals) tt n t

pub usage_number_law : (n : ℕ) → T (usage_refusal n) → T (usage_number n)
usage_number_law n t = covers_among usage_refusals (0 to 0 ∷ usage_refusals) tt n t

-- none of them is EMPTY_STACK's
pub look_not_empty : (n : ℕ) → T (look_refusal n) → n ≡ 10 → ⊥
look_not_empty n t e = rw e at t

pub usage_not_empty : (n : ℕ) → T (usage_number n) → n ≡ 10 → ⊥
usage_not_empty n t e = rw e at t
