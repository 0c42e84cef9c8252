-- What reading a record's body answers, by its parts: one law for each.
use Rattle.std.proofs.Common.{◌≡◌, refl, ◌∙◌, ℕ, zero, suc, ◌+◌, ◌*◌, ◌≤◌, ◌<◌, Bool, true, false, cond, ltb, leb, eqb, List, [], length, get_or, Result, Ok, Err, le-leb, arith}
use borrow.Author.Tests.{ne_eqb}
use Rattle.std.proofs.lemmas.Bool.{lt-leb}
use Rattle.std.proofs.Math.Decide.{dec_le}
use Rattle.status.specs.declared.StatusCode.TheVariants.{SHORT, VALUE}
use Rattle.definitions.specs.SignatureToken.{Signature}
use Rattle.definitions.specs.Reading.{read, next, ◌>>=◌, ◌>>◌, give, here, need, u16, skip}
use Rattle.definitions.specs.Commands.{Commands}
use Rattle.definitions.specs.Reader.{byte_up_to, type, type_within, types, struct_handle, field_information, struct_definition, signature_of, function_view}
use Rattle.record_reader.specs.declared.ReadError.{ReadError}
use Rattle.record_reader.specs.ReadTo.{read_to, forget}
use Rattle.record_reader.specs.Alike.{byte_next, byte_short, alike_map, alike_forget, u16_takes}
use Rattle.record_reader.specs.Apart.{u16_read}
use Rattle.record_reader.specs.Bodies.{counted, pair, body_of, if_else}
use Rattle.record_reader.specs.BodyLaws.{pair_takes, types_alike, type_alike, struct_handle_alike, struct_definition_alike, function_view_alike}
use Rattle.record_reader.specs.Walk.{and_then, then_to}

module _ (most : ℕ) (s : List ℕ) (at : ℕ) where
  pub up_to_short : length s ≤ at → read_to (byte_up_to most s at) ≡ Err (record { status = SHORT; at = length s })
  unfolding byte_up_to ◌>>=◌ ◌>>◌ next here read_to
  up_to_short h = rw (byte_short s at h)

  pub up_to_over : at < length s → most < get_or s at 0 → read_to (byte_up_to most s at) ≡ Err (record { status = VALUE; at = at })
  unfolding byte_up_to ◌>>=◌ ◌>>◌ next here need read_to
  up_to_over h k = simp (byte_next s at h, lt-leb (get_or s at 0) most k)

  pub up_to_next : at < length s → get_or s at 0 ≤ most → read_to (byte_up_to most s at) ≡ Ok (at + 1)
  unfolding byte_up_to ◌>>=◌ ◌>>◌ next here need give read_to
  up_to_next h k = simp (byte_next s at h, le-leb (get_or s at 0) most k)

  up_to_is : {b e : ℕ} → byte_up_to most s at ≡ read b e → b ≡ get_or s at 0
  unfolding byte_up_to ◌>>=◌ ◌>>◌ next here need give
  up_to_is {b} {e} q = go (dec_le (length s) at)
    where
      given : (t : Bool) (x d : ℕ) → next (need t VALUE at s d) (λ _ z. give x s z) ≡ read b e → b ≡ x
      given true x d q = cc
      given false x d q = cc

      go : Dec (length s ≤ at) → b ≡ get_or s at 0
      go (yes h) = let y = rw (byte_short s at h) at q in cc
      go (no h) = given (leb (get_or s at 0) most) (get_or s at 0) (at + 1) (rw (byte_next s at (omega arith)) at q)

pub ruleset judging = (up_to_short, up_to_over, up_to_next)

module _ (s : List ℕ) (at : ℕ) where
  pub pair_to : read_to (pair s at) ≡ read_to (skip 4 s at)
  pair_to = pair_takes.alike s at

  pub handle_to : read_to (struct_handle s at) ≡ and_then (read_to (byte_up_to 15 s at)) (λ e. read_to (counted (byte_up_to 1) s e))
  handle_to = struct_handle_alike.alike s at ∙ then_to (byte_up_to 15) (λ _. counted (byte_up_to 1)) _ s at (λ a e _. refl)

module _ (commands : Commands) (s : List ℕ) (at : ℕ) where
  pub types_to : read_to (types commands s at) ≡ read_to (counted (type_within commands 32) s at)
  types_to = (types_alike commands).alike s at

-- ── `14` ──

of_kind :
    (commands : Commands) (s : List ℕ) (kind e : ℕ) → read_to (field_information commands kind s e) ≡ cond (eqb kind 0) (Ok e) (read_to (types commands s e))
unfolding field_information give read_to
of_kind commands s zero e = refl
of_kind commands s (suc k) e = rw (ne_eqb (suc k) 0 (λ z. omega arith)) ((alike_map (types commands) _).alike s e)

module _ (commands : Commands) (s : List ℕ) where
  -- the fields, after a kind that is 0 or 1
  fields_to : ℕ → Result ℕ ReadError
  fields_to k = and_then (read_to (byte_up_to 1 s k)) (λ e. cond (eqb (get_or s k 0) 0) (Ok e) (read_to (types commands s e)))

  kind_to : (k : ℕ) → read_to ((byte_up_to 1 >>= λ kind. field_information commands kind) s k) ≡ fields_to k
  unfolding fields_to
  kind_to k = then_to (byte_up_to 1) (λ kind. field_information commands kind) _ s k (λ kind e q. by_kind kind e (up_to_is 1 s k q))
    where
      by_kind : (kind e : ℕ) → kind ≡ get_or s k 0 → read_to (field_information commands kind s e) ≡ cond (eqb (get_or s k 0) 0) (Ok e) (read_to (types commands s e))
      by_kind kind e q = rw (← q) (of_kind commands s kind e)

  pub definition_to :
      (at : ℕ) → read_to (struct_definition commands s at)
      ≡ and_then (read_to (skip 2 s at))
      (λ k. and_then (read_to (byte_up_to 1 s k)) (λ e. cond (eqb (get_or s k 0) 0) (Ok e) (read_to (types commands s e))))
  unfolding fields_to
  definition_to at =
      (struct_definition_alike commands).alike s at
      ∙ then_to (skip 2) (λ _. byte_up_to 1 >>= λ kind. field_information commands kind) fields_to s at (λ a e _. kind_to e)

-- ── `19` ──

of_test :
    (t : Bool) (x : Signature) (e at : ℕ) (s : List ℕ) →
    read_to (next (need t VALUE at s e) (λ _ z. give x s z)) ≡ cond t (Ok e) (Err (record { status = VALUE; at = at }))
unfolding need next give read_to
of_test true x e at s = refl
of_test false x e at s = refl

module _ (l : List Signature) (s : List ℕ) where
  pub signature_to :
      (at : ℕ) → read_to (signature_of l s at)
      ≡ and_then (read_to (skip 2 s at))
      (λ e. cond (ltb (get_or s at 0 + 256 * get_or s (at + 1) 0) (length l)) (Ok e) (Err (record { status = VALUE; at = at })))
  unfolding signature_of ◌>>=◌ ◌>>◌ next here
  signature_to at =
      rw (← u16_takes.alike s at)
      (then_to u16 (λ i s d. next (need (ltb i (length l)) VALUE at s d) (λ _ z. give (get_or l i []) s z)) _ s at
      (λ i e q. by_test i e (u16_read s at q).is))
    where
      by_test :
          (i e : ℕ) → i ≡ get_or s at 0 + 256 * get_or s (at + 1) 0 →
          read_to (next (need (ltb i (length l)) VALUE at s e) (λ _ z. give (get_or l i []) s z))
          ≡ cond (ltb (get_or s at 0 + 256 * get_or s (at + 1) 0) (length l)) (Ok e) (Err (record { status = VALUE; at = at }))
      by_test i e q = rw (← q) (of_test (ltb i (length l)) (get_or l i []) e at s)

  pub function_to :
      (at : ℕ) → read_to (function_view l s at)
      ≡ and_then (read_to (signature_of l s at))
      (λ d. and_then (read_to (signature_of l s d)) (λ e. and_then (read_to (signature_of l s e)) (λ b. read_to (counted (byte_up_to 15) s b))))
  function_to at =
      (function_view_alike l).alike s at
      ∙ then_to (signature_of l) _ _ s at
      (λ _ d _. then_to (signature_of l) _ _ s d (λ _ e _. then_to (signature_of l) (λ _. counted (byte_up_to 15)) _ s e (λ _ b _. refl)))

-- ── by command ──

module _ (commands : Commands) (s : List ℕ) (at : ℕ) where
  pub body_to :
      (c : ℕ) → read_to (body_of commands c s at)
      ≡ cond (eqb c 0x10) (read_to (struct_handle s at))
      (cond (eqb c 0x11) (read_to (types commands s at))
      (cond (eqb c 0x14) (read_to (struct_definition commands s at))
      (cond (eqb c 0x18) (read_to (type_within commands 32 s at)) (read_to (pair s at)))))
  unfolding body_of
  body_to c = go (eqb c 0x10) (eqb c 0x11) (eqb c 0x14) (eqb c 0x18)
    where
      go :
          (w x y z : Bool) →
          read_to (if_else w (forget struct_handle) (if_else x (forget (types commands)) (if_else y (forget (struct_definition commands)) (if_else z (forget (type commands)) pair))) s at)
          ≡ cond w (read_to (struct_handle s at))
          (cond x (read_to (types commands s at))
          (cond y (read_to (struct_definition commands s at)) (cond z (read_to (type_within commands 32 s at)) (read_to (pair s at)))))
      go true x y z = (alike_forget struct_handle).alike s at
      go false true y z = (alike_forget (types commands)).alike s at
      go false false true z = (alike_forget (struct_definition commands)).alike s at
      go false false false true = (alike_forget (type commands)).alike s at ∙ (type_alike commands).alike s at
      go false false false false = refl
