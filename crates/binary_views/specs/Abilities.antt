-- The abilities of a type over its bytes: the words of the contracts, and a law for each way that the walk goes.
use Rattle.std.specs.Prelude.{◌≡◌, refl, Ok, Err, false, cond, List, [], ◌∷◌, map, ℕ, ◌+◌, ◌-◌, ◌≤◌, ◌<◌, eqb, length, take, drop, get_or}
use Rattle.std.proofs.Common.{sym, ap, ◌∙◌, arith}
use Rattle.status.specs.declared.StatusCode.{StatusCode}
use Rattle.definitions.specs.Result.{ok, ◌>>?◌, at}
use Rattle.definitions.specs.AbilitySet.{PRIMITIVES, SIGNER, VECTOR, REFERENCES, polymorphic_abilities}
use Rattle.definitions.specs.SignatureToken.{SignatureToken, SignatureTokens, []ᵗ, ◌∷ᵗ◌, count, Struct as StructOf, StructInstantiation as InstantiationOf}
use Rattle.definitions.specs.CompiledUnit.{StructHandle}
use Rattle.definitions.specs.Substitution.{materialize_type}
use Rattle.definitions.specs.Abilities.{is_phantom_of, abilities_in, abilities_of_all}
use Rattle.definitions.specs.Places.{TypeAt, TypesAt, EndOfType, EndOfTypes}
use Rattle.theorems.specs.Bytes.{list_of, arguments_list_of}
use Rattle.file_format.specs.Answers.{PartialVMResult, result_of, answer_back}
use Rattle.file_format.specs.AbilitySet.{set_of, is_phantom_byte, abilities_answer}
use Rattle.file_format.specs.declared.StructHandleIndex.{StructHandleIndex}
use Rattle.file_format.specs.declared.AbilitySet.{AbilitySet}
use Rattle.signature_token.specs.declared.Token.{Token}
use Rattle.signature_token.specs.declared.Token.TheVariants.{Leaf, Wrapped, Struct, StructInstantiation, TypeParameter}
use Rattle.signature_token.specs.declared.Wrapper.{Wrapper}
use Rattle.signature_token.specs.declared.Wrapper.TheVariants as wrapper
use Rattle.signature_token.specs.Token.{TokenAt}
use Rattle.signature_token.specs.TokenLaws.{IsLeaf, is_bool, is_u8, is_u64, is_u128, is_address, is_signer, leaf_at, wrapped_at, struct_at, instantiation_at, parameter_at, none_is}
use Rattle.signature_token.specs.Ends.{leaf_end, struct_end, parameter_end, type_measure, list_measure, type_room}
use Rattle.binary_views.specs.Tables.{PlaceAt, entry_at, entry_past}
use Rattle.binary_views.specs.Handles.{HandleAt, HandlesAt, handle_bytes}

-- ── the words ──

-- an answer without the type's end
abbrev pub without_end : PartialVMResult (AbilitySet × ℕ) → PartialVMResult AbilitySet
without_end (Ok found) = Ok found.0
without_end (Err status) = Err status

-- an answer with the type's end
abbrev pub ending_at : PartialVMResult AbilitySet → ℕ → PartialVMResult (AbilitySet × ℕ)
ending_at (Ok set) end = Ok (set, end)
ending_at (Err status) end = Err status

-- by a leaf's command, 6 being signer
abbrev pub leaf_set : ℕ → ℕ
leaf_set command = cond (eqb command 6) SIGNER PRIMITIVES

-- a vector's abilities by its element's
abbrev pub of_vector : AbilitySet → PartialVMResult AbilitySet
of_vector element = abilities_answer (polymorphic_abilities VECTOR (false ∷ []) (element.0 ∷ []))

-- r is the answer for a struct with the i-th handle
pub record StructAbilitiesAt (unit handles : List ℕ) (i : ℕ) (r : PartialVMResult AbilitySet) : Type 0 where
  pub answers : (h : HandlesAt unit handles) → r ≡ abilities_answer (at h.struct_handles i >>? λ sh. ok sh.abilities)

-- r is the answer for a struct whose handle stands at p, over its arguments' sets
pub record InstantiatedAt (unit : List ℕ) (p : ℕ) (sets : List ℕ) (r : PartialVMResult AbilitySet) : Type 0 where
  pub answers : (h : HandleAt unit p) → r ≡ abilities_answer (polymorphic_abilities h.handle.abilities (map is_phantom_of h.handle.type_parameters) sets)

-- r is the answer for the type at `place`
pub record AbilitiesAt (ty : List ℕ) (place : ℕ) (unit handles constraints : List ℕ) (r : PartialVMResult AbilitySet) : Type 0 where
  pub answers : (p : TypeAt ty place) (h : HandlesAt unit handles) → r ≡ abilities_answer (abilities_in h.struct_handles constraints p.type)

-- r is the answer for the struct with the i-th handle and the n arguments at `place`
pub record InstantiationAt (i : ℕ) (ty : List ℕ) (place n : ℕ) (unit handles constraints : List ℕ) (r : PartialVMResult AbilitySet) : Type 0 where
  pub answers : (q : TypesAt ty place n) (h : HandlesAt unit handles) → r ≡ abilities_answer (abilities_in h.struct_handles constraints (InstantiationOf i q.types))

-- r is the answer for what `materialize_type` makes of them
pub record MaterializedAbilities (i : ℕ) (ty : List ℕ) (place n : ℕ) (unit handles constraints : List ℕ) (r : PartialVMResult AbilitySet) : Type 0 where
  pub answers : (q : TypesAt ty place n) (h : HandlesAt unit handles) → r ≡ abilities_answer (abilities_in h.struct_handles constraints (materialize_type i (list_of q.types)))

-- A holds of the answer r without its end, and E of the end; of a refusal's end nothing is said
pub record WithEnd (A : PartialVMResult AbilitySet → Type 0) (E : ℕ → Type 0) (r : PartialVMResult (AbilitySet × ℕ)) : Type 0 where
  pub answer : A (without_end r)
  pub ends : {set : AbilitySet} {end : ℕ} → r ≡ Ok (set, end) → E end

-- r is the answer for the type at `place`, with where it ends
abbrev pub AbilitiesToAt : List ℕ → ℕ → List ℕ → List ℕ → List ℕ → PartialVMResult (AbilitySet × ℕ) → Type 0
AbilitiesToAt ty place unit handles constraints = WithEnd (AbilitiesAt ty place unit handles constraints) (EndOfType ty place)

-- r is the answer for the struct with the arguments at `place`, with where they end
abbrev pub InstantiationToAt : ℕ → List ℕ → ℕ → ℕ → List ℕ → List ℕ → List ℕ → PartialVMResult (AbilitySet × ℕ) → Type 0
InstantiationToAt i ty place n unit handles constraints = WithEnd (InstantiationAt i ty place n unit handles constraints) (EndOfTypes ty place n)

-- r is the answer for the n types at `place`, with their sets in `sets` and where they end
pub record GatheredAt (ty : List ℕ) (place n : ℕ) (unit handles constraints sets : List ℕ) (r : PartialVMResult ℕ) : Type 0 where
  pub answers : (q : TypesAt ty place n) (h : HandlesAt unit handles) → result_of (λ end. sets) r ≡ abilities_of_all h.struct_handles constraints q.types
  pub ends : {end : ℕ} → r ≡ Ok end → EndOfTypes ty place n end

-- a struct's walk: that along its arguments comes next
abbrev pub struct_measure : List ℕ → ℕ → ℕ → ℕ
struct_measure s at n = list_measure s at n + 1

-- ── struct handles ──

module _ {unit handles : List ℕ} {i : ℕ} where
  pub struct_found : {p : ℕ} → PlaceAt handles i (Ok p) → StructAbilitiesAt unit handles i (Ok (set_of (get_or unit (p + 1) 0)))
  unfolding ◌>>?◌
  struct_found e = record { answers = λ h. let k = entry_at h.stand e in rw (k.is, (handle_bytes k.stands).abilities) }

  pub struct_past : {z : StatusCode} → PlaceAt handles i (Err z) → StructAbilitiesAt unit handles i (Err z)
  unfolding ◌>>?◌
  struct_past e = record { answers = λ h. rw (entry_past h.stand e) }

-- the handle's parameters are the n bytes that follow its count
pub instantiated_at :
    {unit : List ℕ} {p : ℕ} {sets : List ℕ} {r : PartialVMResult AbilitySet} (n : ℕ) → n ≡ get_or unit (p + 2) 0 →
    r ≡ abilities_answer (polymorphic_abilities (get_or unit (p + 1) 0) (map is_phantom_byte (take (p + 3 + n - (p + 3)) (drop (p + 3) unit))) sets) →
    InstantiatedAt unit p sets r
instantiated_at {p = p} n e k = record {
  answers = λ h.
      let b = handle_bytes h.stands in
      let z : p + 3 + n - (p + 3) ≡ length h.handle.type_parameters = omega (arith, e, b.counted) in
      k ∙ rw (b.abilities, z, b.phantoms);
}

-- ── answers and ends ──

module _ {A : PartialVMResult AbilitySet → Type 0} {E : ℕ → Type 0} where
  pub with_refusal : {z : StatusCode} → A (Err z) → WithEnd A E (Err z)
  with_refusal a = record { answer = a; ends = λ k. absurd cc }

  pub with_end : (r : PartialVMResult AbilitySet) (end : ℕ) → A r → E end → WithEnd A E (ending_at r end)
  with_end (Ok set) end a e = record { answer = a; ends = λ {set = set'} {end = e'} k. let z : ◌≡◌ {A = AbilitySet × ℕ} (set, end) (set', e') = cc in rw (← ap (λ (p : AbilitySet × ℕ). p.1) z) e }
  with_end (Err status) end a e = with_refusal a

-- an end is within the bytes
pub end_room : {ty : List ℕ} {place end : ℕ} → EndOfType ty place end → TypeAt ty place → end ≤ length ty
end_room e p = omega (arith, e p, type_room p)

module _ {ty : List ℕ} {place : ℕ} {token : Token} (w : TokenAt ty place token) where
  -- what is around a type ends where the type does
  wrapped_end : {v : Wrapper} {x end : ℕ} → token ≡ Wrapped v x → EndOfType ty x end → EndOfType ty place end
  wrapped_end e f p = let k = wrapped_at w p e in omega (arith, f (record { type = k.inner; stands = k.stands }), k.place, k.long)

  -- an instantiated struct ends where its arguments do
  instantiation_end : {k : StructHandleIndex} {n x end : ℕ} → token ≡ StructInstantiation k n x → EndOfTypes ty x n end → EndOfType ty place end
  instantiation_end e f p =
      let i = instantiation_at w p e in
      omega (arith, f (record { types = i.types; counted = i.counted; stands = i.stands }), i.place, i.long)

-- ── types ──

pub leaf_is : (hs : List StructHandle) (constraints : List ℕ) {t : SignatureToken} {b : ℕ} → IsLeaf t b → abilities_in hs constraints t ≡ ok (leaf_set b)
unfolding abilities_in
leaf_is hs constraints is_bool = refl
leaf_is hs constraints is_u8 = refl
leaf_is hs constraints is_u64 = refl
leaf_is hs constraints is_u128 = refl
leaf_is hs constraints is_address = refl
leaf_is hs constraints is_signer = refl

module _ {ty : List ℕ} {place : ℕ} {unit handles constraints : List ℕ} {token : Token} (w : TokenAt ty place token) where
  pub leaf_abilities : {b : ℕ} → token ≡ Leaf b → AbilitiesToAt ty place unit handles constraints (Ok (set_of (leaf_set b), place + 1))
  leaf_abilities {b} e =
      with_end (Ok (set_of (leaf_set b))) (place + 1)
      (record { answers = λ p h. sym (ap abilities_answer (leaf_is h.struct_handles constraints (leaf_at w p e))) })
      (leaf_end w e)

  vector_answer :
      {x : ℕ} {r : PartialVMResult AbilitySet} → token ≡ Wrapped wrapper.Vector x → AbilitiesAt ty x unit handles constraints r →
      AbilitiesAt ty place unit handles constraints (abilities_answer (result_of (λ set. set.0) r >>? λ set. polymorphic_abilities VECTOR (false ∷ []) (set ∷ [])))
  unfolding abilities_in
  vector_answer e f = record {
    answers = λ p h.
        let k = wrapped_at w p e in
        rw (k.is, f.answers (record { type = k.inner; stands = k.stands }) h, answer_back set_of (λ set. set.0) (λ set. refl) (abilities_in h.struct_handles constraints k.inner));
  }

  pub vector_abilities :
      {x : ℕ} {set : AbilitySet} {end : ℕ} {r : PartialVMResult AbilitySet} → token ≡ Wrapped wrapper.Vector x →
      AbilitiesToAt ty x unit handles constraints (Ok (set, end)) → r ≡ of_vector set → AbilitiesToAt ty place unit handles constraints (ending_at r end)
  unfolding ◌>>?◌
  vector_abilities {end = end} e f k = rw k (with_end _ end (vector_answer e f.answer) (wrapped_end w e (f.ends refl)))

  pub vector_refused :
      {x : ℕ} {z : StatusCode} → token ≡ Wrapped wrapper.Vector x → AbilitiesToAt ty x unit handles constraints (Err z) →
      AbilitiesToAt ty place unit handles constraints (Err z)
  unfolding ◌>>?◌
  vector_refused e f = with_refusal (vector_answer e f.answer)

  pub reference_abilities :
      {x end : ℕ} {v : Wrapper} → token ≡ Wrapped v x → (v ≡ wrapper.Vector → ⊥) → EndOfType ty x end →
      AbilitiesToAt ty place unit handles constraints (Ok (set_of REFERENCES, end))
  unfolding abilities_in
  reference_abilities {v = wrapper.Vector} e n f = absurd (n refl)
  reference_abilities {end = end} {v = wrapper.Reference} e n f =
      with_end (Ok (set_of REFERENCES)) end (record { answers = λ p h. rw (wrapped_at w p e).is }) (wrapped_end w e f)
  reference_abilities {end = end} {v = wrapper.MutableReference} e n f =
      with_end (Ok (set_of REFERENCES)) end (record { answers = λ p h. rw (wrapped_at w p e).is }) (wrapped_end w e f)

  pub struct_abilities :
      {k : StructHandleIndex} {r : PartialVMResult AbilitySet} → token ≡ Struct k → StructAbilitiesAt unit handles k.0 r →
      AbilitiesToAt ty place unit handles constraints (ending_at r (place + 3))
  unfolding abilities_in
  struct_abilities {r = r} e f = with_end r (place + 3) (record { answers = λ p h. rw (struct_at w p e).is (f.answers h) }) (struct_end w e)

  pub parameter_abilities :
      {i : ℕ} {r : PartialVMResult AbilitySet} → token ≡ TypeParameter i → r ≡ abilities_answer (at constraints i) →
      AbilitiesToAt ty place unit handles constraints (ending_at r (place + 3))
  unfolding abilities_in
  parameter_abilities {r = r} e f = with_end r (place + 3) (record { answers = λ p h. rw (parameter_at w p e).is f }) (parameter_end w e)

-- ── an instantiated struct ──

module _ {ty : List ℕ} {place : ℕ} {token : Token} (w : TokenAt ty place token) (p : TypeAt ty place) {k : StructHandleIndex} {n x : ℕ} (e : token ≡ StructInstantiation k n x) (l : n < 256) where
  -- a struct's walk is below the type's, and above its arguments'
  pub instantiation_falls : struct_measure ty x n < type_measure ty place
  instantiation_falls = let i = instantiation_at w p e in omega (arith, i.place, i.long, type_room p)

-- the type is the struct with the arguments at x
pub instantiation_type :
    {ty : List ℕ} {place : ℕ} {unit handles constraints : List ℕ} {token : Token} → TokenAt ty place token → {k : StructHandleIndex} {n x : ℕ} →
    token ≡ StructInstantiation k n x → {r : PartialVMResult (AbilitySet × ℕ)} → InstantiationToAt k.0 ty x n unit handles constraints r → AbilitiesToAt ty place unit handles constraints r
instantiation_type w e f = record {
  answer = record {
    answers = λ p h.
        let i = instantiation_at w p e in
        rw i.is (f.answer.answers (record { types = i.types; counted = i.counted; stands = i.stands }) h);
  };
  ends = λ k. instantiation_end w e (f.ends k);
}

module _ {i : ℕ} {ty : List ℕ} {place n : ℕ} {unit handles constraints : List ℕ} where
  pub instantiation_past : {z : StatusCode} → PlaceAt handles i (Err z) → InstantiationToAt i ty place n unit handles constraints (Err z)
  unfolding abilities_in ◌>>?◌
  instantiation_past f = with_refusal (record { answers = λ q h. rw (entry_past h.stand f) })

  module _ {p m : ℕ} {sets : List ℕ} (f : PlaceAt handles i (Ok p)) (e : m ≡ n) where
    pub argument_refused : {z : StatusCode} → GatheredAt ty place m unit handles constraints sets (Err z) → InstantiationToAt i ty place n unit handles constraints (Err z)
    unfolding abilities_in ◌>>?◌
    argument_refused g = rw (← e) (with_refusal (record { answers = λ q h. rw ((entry_at h.stand f).is, ← g.answers q h) }))

    pub instantiation_abilities :
        {r : PartialVMResult AbilitySet} {end : ℕ} → GatheredAt ty place m unit handles constraints sets (Ok end) → InstantiatedAt unit p sets r →
        InstantiationToAt i ty place n unit handles constraints (ending_at r end)
    unfolding abilities_in ◌>>?◌
    instantiation_abilities {r} {end} g j =
        rw (← e)
        (with_end r end
        (record { answers = λ q h. let a = entry_at h.stand f in rw (a.is, ← g.answers q h) (j.answers (record { handle = a.item; stands = a.stands })) })
        (g.ends refl))

-- ── what is made of a handle and arguments ──

-- no argument: a plain struct
made_plain : (i : ℕ) (ts : SignatureTokens) → count ts ≡ 0 → materialize_type i (list_of ts) ≡ StructOf i
unfolding materialize_type list_of
made_plain i ts e = rw (none_is ts e)

-- some: an instantiation
made_generic : (i : ℕ) (ts : SignatureTokens) → (count ts ≡ 0 → ⊥) → materialize_type i (list_of ts) ≡ InstantiationOf i ts
unfolding materialize_type list_of count
made_generic i []ᵗ f = absurd (f refl)
made_generic i (t ∷ᵗ ts) f = ap (InstantiationOf i) (arguments_list_of (t ∷ᵗ ts))

module _ {i : ℕ} {ty : List ℕ} {place n : ℕ} {unit handles constraints : List ℕ} {r : PartialVMResult AbilitySet} where
  pub plain_made : n ≡ 0 → StructAbilitiesAt unit handles i r → MaterializedAbilities i ty place n unit handles constraints r
  unfolding abilities_in
  plain_made e f = record { answers = λ q h. rw (made_plain i q.types (q.counted ∙ e)) (f.answers h) }

  pub generic_made : (n ≡ 0 → ⊥) → InstantiationAt i ty place n unit handles constraints r → MaterializedAbilities i ty place n unit handles constraints r
  generic_made l f = record { answers = λ q h. rw (made_generic i q.types λ z. l (sym q.counted ∙ z)) (f.answers q h) }
