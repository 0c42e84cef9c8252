-- How one loop compares bytes that stand elsewhere with those of a type whose parameters are replaced: at each turn some of them are matched, and what
-- is left of the type gives the others.
use Rattle.std.specs.Prelude.{◌≡◌, refl, Option, Some, None, List, [], ◌++◌, Bool, true, false, ℕ, ◌+◌, ◌-◌, ◌≤◌, ◌<◌, length, take, drop, get_or, eqb}
use Rattle.std.specs.List.{starts_with}
use Rattle.std.proofs.Common.{sym, ◌∙◌, append-nil, arith, length-append}
use Rattle.std.proofs.Math.Path.{ap}
use Rattle.definitions.specs.Result.{Result, ok, ◌>>?◌}
use Rattle.definitions.specs.SignatureToken.{SignatureTokens, Signature, encode}
use Rattle.definitions.specs.Places.{At, TypeAt, TypesAt}
use Rattle.theorems.specs.AtLaws.{at_room, at_front, at_back}
use Rattle.theorems.specs.Bytes.{one_type as one_here}
use Rattle.file_format.specs.declared.StructHandleIndex.{StructHandleIndex}
use Rattle.signature_token.specs.declared.Wrapper.{Wrapper}
use Rattle.signature_token.specs.declared.Token.{Token}
use Rattle.signature_token.specs.declared.Token.TheVariants.{Leaf, Wrapped, Struct, StructInstantiation, TypeParameter}
use Rattle.signature_token.specs.Encoded.{Encoded}
use Rattle.signature_token.specs.Token.{TokenAt, at_some}
use Rattle.signature_token.specs.TokenLaws.{wrapped_at, instantiation_at, none_is}
use Rattle.signature_token.specs.Lists.{Left, type_left}
use Rattle.signature_token.specs.Passing.{one_type}
use Rattle.signature_token.specs.declared.TypeRef.{TypeRef}
use Rattle.type_places.specs.Arguments.{Arguments, PlacedAt}
use Rattle.substitution.specs.Bytes.{Tells, start_told, part_is, at_append}
use Rattle.substitution.specs.Instantiate.{filled, filled_all, filled_one, filled_none, after, after_nil, after_after, after_ok, argument_is, instantiated}
use Rattle.substitution.specs.Opening.{Opened, leaf_opened, struct_opened, argument_opened, argument_none, inner_opened, arguments_opened}
use Rattle.substitution_comparison.specs.declared.Match.{Match}

-- ── the words ──

-- bs stand at e and end at c
pub record Reaches (s : List ℕ) (e : ℕ) (bs : List ℕ) (c : ℕ) : Type 0 where
  pub reached : c ≡ e + length bs
  pub within : c ≤ length s
  pub stands : At s e bs

-- r is the match of bs, if they stand at e of s; it hands on x and j
pub record PartMatched (s : List ℕ) (e : ℕ) (bs : List ℕ) (x j : ℕ) (r : Option Match) : Type 0 where
  pub yes : (m : Match) → r ≡ Some m → Reaches s e bs m.reached × (m.next ≡ x) × (m.left ≡ j)
  pub no : r ≡ None → At s e bs → ⊥

-- the same of the argument at `from`
pub record ArgumentMatched (s : List ℕ) (e : ℕ) (args : List ℕ) (from x j : ℕ) (r : Option Match) : Type 0 where
  pub is : (p : TypeAt args from) → PartMatched s e (encode p.type) x j r

-- the k types at p give bytes that stand at e and end at c, and then what the j types at y give
pub record Turned (s : List ℕ) (e : ℕ) (ty : List ℕ) (p : ℕ) (ts : SignatureTokens) (subst : Signature) (c y j : ℕ) : Type 0 where
  pub bytes : List ℕ
  pub next : TypesAt ty y j
  pub is : filled_all ts subst ≡ after bytes (filled_all next.types subst)
  pub reaches : Reaches s e bytes c
  pub onward : p < y

-- no bytes that they give stand at e
abbrev Differing : List ℕ → ℕ → SignatureTokens → Signature → Type 0
Differing s e ts subst = (cs : List ℕ) → filled_all ts subst ≡ ok cs → At s e cs → ⊥

pub record FirstMatched (s : List ℕ) (e : ℕ) (ty : List ℕ) (p k : ℕ) (args places : List ℕ) (r : Option Match) : Type 0 where
  pub yes : (m : Match) → r ≡ Some m → (q : TypesAt ty p k) (a : Arguments args places) → Turned s e ty p q.types a.subst m.reached m.next m.left
  pub no : r ≡ None → (q : TypesAt ty p k) (a : Arguments args places) → Differing s e q.types a.subst

-- r says whether the type at x of s has the bytes of what is made of the type at `at` of ty
pub record SameFilled (s : List ℕ) (x : ℕ) (ty : List ℕ) (at : ℕ) (args places : List ℕ) (r : Bool) : Type 0 where
  pub tells : (t : TypeAt s x) (q : TypeAt ty at) (a : Arguments args places) → Tells r (filled q.type a.subst ≡ ok (encode t.type))

-- ── a part ──

abbrev match_to : ℕ → ℕ → ℕ → Match
match_to c y k = record { reached = c; next = y; left = k }

module _ {s : List ℕ} {e : ℕ} {bs : List ℕ} {x j : ℕ} {b : Bool} (told : b ≡ starts_with eqb (take (length s - e) (drop e s)) bs) where
  pub part_yes : b ≡ true → e ≤ length s → PartMatched s e bs x j (Some (match_to (e + length bs) x j))
  part_yes k o = let h : Tells true (At s e bs) = start_told s e bs true (rw k at told) in record {
    yes = λ m z.
        let i : match_to (e + length bs) x j ≡ m = cc in
        rw (← i) (record { reached = refl; within = omega (arith, at_room h); stands = h }, refl, refl);
    no = λ z. absurd cc;
  }

  pub part_no : b ≡ false → PartMatched s e bs x j None
  part_no k = record { yes = λ m z. absurd cc; no = λ z. start_told s e bs false (rw k at told) }

-- `match_part`
pub ruleset parts = (part_yes, part_no)

-- ── an argument ──

pub argument_matched :
    {s : List ℕ} {w : ℕ} {args : List ℕ} {from x j : ℕ} {bs : List ℕ} {r : Option Match} → Encoded args from bs → PartMatched s w bs x j r →
    ArgumentMatched s w args from x j r
argument_matched is h = record { is = λ p. rw (is p) at h }

-- ── the first type ──

-- the types that stand at p, as what is left of them
abbrev pub all_left : {ty : List ℕ} {p k : ℕ} (q : TypesAt ty p k) → Left ty p q.types p k
all_left q = record { others = q.types; counted = q.counted; stands = q.stands; past = omega arith; ends = refl }

-- by the bytes that it gives first
first_matched :
    {s : List ℕ} {e : ℕ} {ty : List ℕ} {p k : ℕ} {args places : List ℕ} {x j : ℕ} {r : Option Match} (bs : (a : Arguments args places) → List ℕ) →
    ((q : TypesAt ty p k) (a : Arguments args places) → Opened (all_left q) a.subst (bs a) x j) → ((a : Arguments args places) → PartMatched s e (bs a) x j r) →
    p < x → FirstMatched s e ty p k args places r
first_matched bs opens m onward = record {
  yes = λ match z q a.
      let o = opens q a in
      let h = (m a).yes match z in
      rw (h.1, h.2) (record {
        bytes = bs a;
        next = record { types = o.left.others; counted = o.left.counted; stands = o.left.stands };
        is = o.is;
        reaches = h.0;
        onward = onward;
      });
  no = λ z q a cs fill stands.
      let f = after_ok (bs a) _ (sym (opens q a).is ∙ fill) in
      (m a).no z (at_front (bs a) f.bytes (rw f.is at stands));
}

module _ {s : List ℕ} {e : ℕ} {ty : List ℕ} {p k : ℕ} {args places : List ℕ} (l : 0 < k) {token : Token} (w : TokenAt ty p token) where
  pub leaf_first : {b : ℕ} {r : Option Match} → token ≡ Leaf b → PartMatched s e (take (p + 1 - p) (drop p ty)) (p + 1) (k - 1) r → FirstMatched s e ty p k args places r
  leaf_first z m = first_matched (λ a. take 1 (drop p ty)) (λ q a. leaf_opened l (all_left q) a.subst w z) (λ a. rw (part_is ty p 1) at m) (omega arith)

  pub struct_first : {h : StructHandleIndex} {r : Option Match} → token ≡ Struct h → PartMatched s e (take (p + 3 - p) (drop p ty)) (p + 3) (k - 1) r → FirstMatched s e ty p k args places r
  struct_first z m = first_matched (λ a. take 3 (drop p ty)) (λ q a. struct_opened l (all_left q) a.subst w z) (λ a. rw (part_is ty p 3) at m) (omega arith)

  pub wrapped_first : {v : Wrapper} {x : ℕ} {r : Option Match} → token ≡ Wrapped v x → TypesAt ty p k → PartMatched s e (take (p + 1 - p) (drop p ty)) x k r → FirstMatched s e ty p k args places r
  wrapped_first z q₀ m =
      first_matched (λ a. take 1 (drop p ty)) (λ q a. inner_opened l (all_left q) a.subst w z) (λ a. rw (part_is ty p 1) at m)
      (omega (arith, (wrapped_at w (type_left l (all_left q₀)) z).place))

  pub instantiation_first : {h : StructHandleIndex} {m x : ℕ} {r : Option Match} → token ≡ StructInstantiation h m x → TypesAt ty p k → PartMatched s e (take (p + 4 - p) (drop p ty)) x (k - 1 + m) r → FirstMatched s e ty p k args places r
  instantiation_first z q₀ h =
      first_matched (λ a. take 4 (drop p ty)) (λ q a. arguments_opened l (all_left q) a.subst w z) (λ a. rw (part_is ty p 4) at h)
      (omega (arith, (instantiation_at w (type_left l (all_left q₀)) z).place))

  -- a parameter gives its argument's bytes, or nothing
  pub parameter_first : {i : ℕ} {t : TypeRef} {r : Option Match} → token ≡ TypeParameter i → PlacedAt args places i (Some t) →
      ArgumentMatched s e t.bytes.now t.at (p + 3) (k - 1) r → FirstMatched s e ty p k args places r
  parameter_first {i} {t} z placed m =
      let here = placed.some t refl in
      let f = here.within in
      let h : ArgumentMatched s e args (get_or places i 0) (p + 3) (k - 1) _ = rw (here.bytes, here.place) at m in
      first_matched (λ a. encode (argument_is i f a.standing).type) (λ q a. argument_opened l (all_left q) a.subst w z (argument_is i f a.standing))
      (λ a. let g = argument_is i f a.standing in h.is (record { type = g.type; stands = g.stands })) (omega arith)

  pub parameter_none : {i : ℕ} → token ≡ TypeParameter i → PlacedAt args places i None → FirstMatched s e ty p k args places None
  parameter_none z past = record {
    yes = λ m h. absurd cc;
    no = λ h q a cs fill. let none = sym (argument_none l (all_left q) a.subst w z (past.none refl) a.standing) ∙ fill in absurd cc;
  }

-- ── the loop ──

-- the first bytes of what is made are those of s from x to e, and what is left gives the others
pub record Agreeing (s : List ℕ) (x : ℕ) (whole : Result (List ℕ)) (ty : List ℕ) (subst : Signature) (e p k : ℕ) : Type 0 where
  pub next : TypesAt ty p k
  pub done : List ℕ
  pub reached : e ≡ x + length done
  pub stands : At s x done
  pub is : whole ≡ after done (filled_all next.types subst)

pub record Agreed (s : List ℕ) (x : ℕ) (ty : List ℕ) (at : ℕ) (args places : List ℕ) (e p k : ℕ) : Type 0 where
  pub low : e ≤ length s
  pub is : (q : TypeAt ty at) (a : Arguments args places) → Agreeing s x (filled q.type a.subst) ty a.subst e p k

pub agreed_start : {s : List ℕ} {x : ℕ} {ty : List ℕ} {at : ℕ} {args places : List ℕ} → TypeAt s x → Agreed s x ty at args places x at 1
unfolding one_type
agreed_start {s} {x} t = record {
  low = omega (arith, at_some t);
  is = λ q a. record {
    next = one_type q;
    done = [];
    reached = omega arith;
    stands = record { rest = drop x s; here = refl };
    is = sym (filled_one q.type a.subst) ∙ after_nil _;
  };
}

module _ {s : List ℕ} {x : ℕ} {ty : List ℕ} {at : ℕ} {args places : List ℕ} {e p k : ℕ} (g : Agreed s x ty at args places e p k) where
  pub agreed_on : {m : Match} → FirstMatched s e ty p k args places (Some m) → TypeAt ty at → Arguments args places → Agreed s x ty at args places m.reached m.next m.left
  agreed_on {m} f q₀ a₀ = record {
    low = (f.yes m refl (g.is q₀ a₀).next a₀).reaches.within;
    is = λ q a.
        let h = g.is q a in
        let t = f.yes m refl h.next a in
        record {
          next = t.next;
          done = h.done ++ t.bytes;
          reached = omega (arith, h.reached, t.reaches.reached, length-append h.done t.bytes);
          stands = at_append h.done t.bytes h.stands (rw h.reached at t.reaches.stands);
          is = h.is ∙ ap (after h.done) t.is ∙ after_after h.done t.bytes (filled_all t.next.types a.subst);
        };
  }

  pub agreed_no : FirstMatched s e ty p k args places None → SameFilled s x ty at args places false
  agreed_no m = record {
    tells = λ t q a fill.
        let h = g.is q a in
        let f = after_ok h.done (filled_all h.next.types a.subst) (sym h.is ∙ fill) in
        m.no refl h.next a f.bytes f.here (rw h.reached (at_back h.done f.bytes (rw f.is at t.stands)));
  }

  -- all of it is matched, and what is made of the type is the one type that stands there
  pub agreed_done : k ≡ 0 → SameFilled s x ty at args places true
  unfolding after ◌>>?◌
  agreed_done none = record {
    tells = λ t q a.
        let h = g.is q a in
        let filling : filled q.type a.subst ≡ ok h.done =
        h.is ∙ rw (none_is h.next.types (h.next.counted ∙ none), filled_none a.subst) (ap ok (append-nil h.done)) in
        let u = instantiated q.type a.subst filling in
        filling ∙ ap ok (u.is ∙ ap encode (sym (one_here t.type u.type t.stands (rw u.is at h.stands))));
  }
