-- What reading a type answers, by the shape of its command: one law for each way that it goes.
use Rattle.std.proofs.Common.{◌≡◌, refl, ◌∙◌, ℕ, zero, suc, ◌+◌, ◌-◌, ◌≤◌, ◌<◌, List, length, get_or, Result, Ok, Err, add-zero, arith}
use Rattle.status.specs.declared.StatusCode.TheVariants.{SHORT, COMMAND, DEPTH}
use Rattle.definitions.specs.SignatureToken.{SignatureToken}
use Rattle.definitions.specs.CompiledUnit.{Head}
use Rattle.definitions.specs.Reading.{Reader, next, ◌>>=◌, ◌>>◌, give, fail, here, byte, skip, many}
use Rattle.definitions.specs.Commands.{TypeCommand, leaf, over, instantiation, commands_of, type_commands}
use Rattle.definitions.specs.Reader.{rest_of_type, type_within}
use Rattle.type_commands.specs.Plain.{opened, width_by, around_by, plain_width, wrapping, around_most}
use Rattle.record_reader.specs.declared.ReadError.{ReadError}
use Rattle.record_reader.specs.declared.TypeShape.{TypeShape}
use Rattle.record_reader.specs.declared.TypeShape.TheVariants.{Leaf, Over, Index, Instantiation, Unknown}
use Rattle.record_reader.specs.ReadTo.{read_to}
use Rattle.record_reader.specs.Alike.{byte_next, byte_short, alike_map, alike_then, alike_after, map_alike, u16_takes}
use Rattle.record_reader.specs.Bodies.{shape_of, type_shape, counted}
use Rattle.record_reader.specs.BodyLaws.{same_types}
use Rattle.record_reader.specs.Walk.{and_then, then_to, skip_within}

-- where the rest of a type ends, by its shape; the command stood at p
abbrev pub rest_to : Reader SignatureToken → ℕ → TypeShape → List ℕ → ℕ → Result ℕ ReadError
rest_to type p Leaf s e = Ok e
rest_to type p Over s e = read_to (type s e)
rest_to type p Index s e = read_to (skip 2 s e)
rest_to type p Instantiation s e = and_then (read_to (skip 2 s e)) (λ d. read_to (counted type s d))
rest_to type p Unknown s e = Err (record { status = COMMAND; at = p })

rest_shaped :
    (type : Reader SignatureToken) (p : ℕ) (command : TypeCommand) (s : List ℕ) (e : ℕ) →
    read_to (rest_of_type type p command s e) ≡ rest_to type p (shape_of command) s e
unfolding rest_of_type counted give fail read_to
rest_shaped type p (leaf t) s e = refl
rest_shaped type p (over f) s e = (alike_map type f).alike s e
rest_shaped type p (TypeCommand.index f) s e = (map_alike u16_takes f).alike s e
rest_shaped type p instantiation s e =
    (alike_then u16_takes (λ h _. alike_after byte λ n. alike_map (many n type) _)).alike s e
    ∙ then_to (skip 2) (λ _. counted type) _ s e (λ a d _. refl)
rest_shaped type p TypeCommand.unknown s e = refl

module _ (head : Head) (levels : ℕ) (s : List ℕ) (at : ℕ) where
  pub type_short : length s ≤ at → read_to (type_within (commands_of head) levels s at) ≡ Err (record { status = SHORT; at = length s })
  unfolding type_within ◌>>=◌ ◌>>◌ next here read_to
  type_short h = by_levels levels
    where
      by_levels : (n : ℕ) → read_to (type_within (commands_of head) n s at) ≡ Err (record { status = SHORT; at = length s })
      by_levels zero = rw (byte_short s at h)
      by_levels (suc n) = rw (byte_short s at h)

  pub type_deep : at < length s → levels ≡ 0 → read_to (type_within (commands_of head) levels s at) ≡ Err (record { status = DEPTH; at = at })
  unfolding type_within ◌>>=◌ ◌>>◌ next here fail read_to
  type_deep h e = rw (e, byte_next s at h)

module _ (head : Head) where
  pub type_shaped :
      (levels : ℕ) (s : List ℕ) (at : ℕ) → at < length s → 0 < levels →
      read_to (type_within (commands_of head) levels s at)
      ≡ rest_to (type_within (commands_of head) (levels - 1)) at (type_shape (get_or s at 0)) s (at + 1)
  unfolding type_within ◌>>=◌ next here
  type_shaped zero s at h k = absurd (omega arith)
  type_shaped (suc levels) s at h k =
      let z : suc levels - 1 ≡ levels = omega arith in
      rw (z, byte_next s at h, same_types head (get_or s at 0))
      (rest_shaped (type_within (commands_of head) levels) at (get_or type_commands (get_or s at 0) TypeCommand.unknown) s (at + 1))

pub ruleset walking = (type_short, type_deep, type_shaped)

-- ── a plain type, or one that a command stands around ──

plain_rest :
    (type : Reader SignatureToken) (s : List ℕ) (at : ℕ) (command : TypeCommand) → at + 2 < length s → 0 < width_by command →
    rest_to type at (shape_of command) s (at + 1) ≡ Ok (at + width_by command)
plain_rest type s at (leaf t) h k = refl
plain_rest type s at (over f) h k = absurd (omega arith)
plain_rest type s at (TypeCommand.index f) h k = let z : at + 3 ≡ at + 1 + 2 = omega arith in rw z (skip_within 2 s (at + 1) (omega arith))
plain_rest type s at instantiation h k = absurd (omega arith)
plain_rest type s at TypeCommand.unknown h k = absurd (omega arith)

around_rest :
    (type : Reader SignatureToken) (s : List ℕ) (at : ℕ) (command : TypeCommand) → around_by command ≡ 1 →
    rest_to type at (shape_of command) s (at + 1) ≡ read_to (type s (at + 1))
around_rest type s at (leaf t) k = absurd (omega arith)
around_rest type s at (over f) k = refl
around_rest type s at (TypeCommand.index f) k = absurd (omega arith)
around_rest type s at instantiation k = absurd (omega arith)
around_rest type s at TypeCommand.unknown k = absurd (omega arith)

module _ (head : Head) (levels : ℕ) (s : List ℕ) (at : ℕ) where
  plain_here :
      at + 2 < length s → 0 < levels → 0 < plain_width (get_or s at 0) →
      read_to (type_within (commands_of head) levels s at) ≡ Ok (at + plain_width (get_or s at 0))
  plain_here h l k =
      type_shaped head levels s at (omega arith) l
      ∙ plain_rest (type_within (commands_of head) (levels - 1)) s at (opened (get_or s at 0)) h k

module _ (head : Head) (levels : ℕ) (s : List ℕ) (at : ℕ) where
  by_wrapping :
      (w : ℕ) → w ≡ wrapping (get_or s at 0) → at + 4 < length s → 1 < levels → 0 < plain_width (get_or s (at + w) 0) →
      read_to (type_within (commands_of head) levels s at) ≡ Ok (at + w + plain_width (get_or s (at + w) 0))
  by_wrapping zero e h l k = rw (add-zero at) (plain_here head levels s at (omega arith) (omega arith) (rw (add-zero at) at k))
  by_wrapping (suc zero) e h l k =
      type_shaped head levels s at (omega arith) (omega arith)
      ∙ around_rest (type_within (commands_of head) (levels - 1)) s at (opened (get_or s at 0)) (omega (arith, e))
      ∙ plain_here head (levels - 1) s (at + 1) (omega arith) (omega arith) k
  by_wrapping (suc (suc w)) e h l k = absurd (omega (arith, around_most (opened (get_or s at 0))))

  pub plain_read :
      at + 4 < length s → 1 < levels → 0 < plain_width (get_or s (at + wrapping (get_or s at 0)) 0) →
      read_to (type_within (commands_of head) levels s at)
      ≡ Ok (at + wrapping (get_or s at 0) + plain_width (get_or s (at + wrapping (get_or s at 0)) 0))
  plain_read h l k = by_wrapping (wrapping (get_or s at 0)) refl h l k
