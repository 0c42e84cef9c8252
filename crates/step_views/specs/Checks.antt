-- What the answer to an ability that is asked of a type tells a step's program, as laws from what is left of it to the whole.
use Rattle.std.specs.Prelude.{◌≡◌, refl, Ok, Err, Bool, true, false, cond, List, ℕ}
use Rattle.std.proofs.Common.{sym, ap, ◌∙◌, arith}
use Rattle.status.specs.declared.StatusCode.{StatusCode}
use Rattle.definitions.specs.Result.{Result, ok, err}
use Rattle.definitions.specs.AbilitySet.{has_ability}
use Rattle.definitions.specs.SignatureToken.{SignatureToken}
use Rattle.definitions.specs.CompiledUnit.{CompiledUnit}
use Rattle.definitions.specs.Abilities.{abilities}
use Rattle.definitions.specs.Machine.{Step, ◌>>=◌, look}
use Rattle.file_format.specs.AbilitySet.{ability_of, set_of}
use Rattle.file_format.specs.declared.AbilitySet.{AbilitySet}
use Rattle.file_format.specs.declared.Ability.{Ability}
use Rattle.file_format.specs.Answers.{PartialVMResult, answer_found, answer_refused}
use Rattle.binary_views.specs.Abilities.{leaf_set, leaf_is}
use Rattle.signature_token.specs.TokenLaws.{IsLeaf}
use Rattle.type_stack.specs.Answers.{Stepped}
use Rattle.type_stack.specs.Stepping.{StepsTo, look_then, look_bad}
use Rattle.ability_views.specs.Answers.{AbilitiesIs}

-- ── the words ──

-- whether an ability is held; where not, the status given
abbrev pub held_or : StatusCode → Bool → PartialVMResult (Unit {0})
held_or status held = cond held (Ok tt) (Err status)

-- the same of the ability asked of a set
abbrev pub asked : Ability → StatusCode → ℕ → PartialVMResult (Unit {0})
asked ability status set = held_or status (has_ability set (ability_of ability))

-- what the abilities of a type make of the ability asked
abbrev pub checked_by : Ability → StatusCode → Result ℕ → PartialVMResult (Unit {0})
checked_by ability status (ok set) = asked ability status set
checked_by ability status (err why) = Err why

-- r is the answer to the ability asked of t
pub record AbilityIs (u : CompiledUnit) (t : SignatureToken) (ability : Ability) (status : StatusCode) (r : PartialVMResult (Unit {0})) : Type 0 where
  pub is : r ≡ checked_by ability status (abilities u t)

-- ── how it is found ──

module _ {u : CompiledUnit} {t : SignatureToken} {ability : Ability} {status : StatusCode} where
  pub abilities_refused : {why : StatusCode} → AbilitiesIs u t (Err why) → AbilityIs u t ability status (Err why)
  abilities_refused w = record { is = rw (answer_refused set_of (abilities u t) w.is) refl }

  pub abilities_asked : {set : AbilitySet} {r : PartialVMResult (Unit {0})} → AbilitiesIs u t (Ok set) → r ≡ asked ability status set.0 → AbilityIs u t ability status r
  abilities_asked w e = let (n, i, k) = answer_found set_of (abilities u t) w.is in record { is = rw i (e ∙ ap (λ (a : AbilitySet). asked ability status a.0) k) }

  -- a leaf is asked by its command
  pub leaf_asked :
      {b : ℕ} {set : AbilitySet} {r : PartialVMResult (Unit {0})} → IsLeaf t b → set ≡ set_of (leaf_set b) →
      r ≡ asked ability status set.0 → AbilityIs u t ability status r
  unfolding abilities
  leaf_asked l g e = record {
    is = e ∙ ap (λ (a : AbilitySet). asked ability status a.0) g ∙ ap (checked_by ability status) (sym (leaf_is u.struct_handles u.function.type_parameters l));
  }

pub ruleset asked_laws = (abilities_refused, abilities_asked, leaf_asked)

-- ── what it tells a step ──

-- the ability is held, or the step is refused: at the look-up of the abilities, or by its own check
module _ {u : CompiledUnit} {t : SignatureToken} {ability : Ability} {status : StatusCode} where
  pub ability_then :
      {k : ℕ → Step} {a b : List ℕ} {x : ℕ} {q : Stepped} → AbilityIs u t ability status (Ok tt) →
      ((set : ℕ) → has_ability set (ability_of ability) ≡ true → StepsTo (k set) a x b q) → StepsTo (look (abilities u t) >>= k) a x b q
  ability_then {k} {a} {b} {x} {q} w f = go (abilities u t) w.is
    where
      held : (set : ℕ) (h : Bool) → has_ability set (ability_of ability) ≡ h → Ok tt ≡ held_or status h → StepsTo (look (ok set) >>= k) a x b q
      held set true i g = look_then k refl (f set i)
      held set false i g = let z : ◌≡◌ {A = ℕ} 0 1 = cc in absurd (omega arith)

      go : (y : Result ℕ) → Ok tt ≡ checked_by ability status y → StepsTo (look y >>= k) a x b q
      go (ok set) g = held set (has_ability set (ability_of ability)) refl g
      go (err v) g = let z : ◌≡◌ {A = ℕ} 0 1 = cc in absurd (omega arith)

  pub ability_bad :
      {k : ℕ → Step} {a : List ℕ} {x : ℕ} {v : StatusCode} → AbilityIs u t ability status (Err v) →
      ((set : ℕ) → has_ability set (ability_of ability) ≡ false → StepsTo (k set) a x a (Err status)) → StepsTo (look (abilities u t) >>= k) a x a (Err v)
  ability_bad {k} {a} {x} {v} w f = go (abilities u t) w.is
    where
      lacking : (set : ℕ) (h : Bool) → has_ability set (ability_of ability) ≡ h → Err v ≡ held_or status h → StepsTo (look (ok set) >>= k) a x a (Err v)
      lacking set true i g = let z : ◌≡◌ {A = ℕ} 0 1 = cc in absurd (omega arith)
      lacking set false i g = let n : v ≡ status = cc in rw n (look_then k refl (f set i))

      go : (y : Result ℕ) → Err v ≡ checked_by ability status y → StepsTo (look y >>= k) a x a (Err v)
      go (ok set) g = lacking set (has_ability set (ability_of ability)) refl g
      go (err z) g = let n : v ≡ z = cc in look_bad k (ap err (sym n))
