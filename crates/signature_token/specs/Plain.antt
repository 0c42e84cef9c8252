-- What the commands alone tell of a type that stands there: how many bytes a plain one has, and where the type inside one stands that one
-- command is around.
use Rattle.std.specs.Prelude.{◌≡◌, refl, Option, Some, None, List, ◌∷◌, ℕ, zero, suc, ◌+◌, ◌<◌, length, get_or}
use Rattle.std.proofs.Common.{sym, ap, ◌∙◌, add-zero, arith}
use Rattle.definitions.specs.SignatureToken.{SignatureToken, Bool', U8, U64, U128, Address, Signer, Vector, Struct, StructInstantiation, Reference, MutableReference, TypeParameter, encode}
use Rattle.definitions.specs.Places.{At, TypeAt, EndOfType}
use Rattle.theorems.specs.AtLaws.{at_byte, at_next}
use Rattle.type_commands.specs.Plain.{opened, plain_width, wrapping, around_most}
use Rattle.signature_token.specs.Token.{at_some}

-- where an end is told, the type at `at` ends there
abbrev pub PlainEnd : List ℕ → ℕ → Option ℕ → Type 0
PlainEnd s at (Some r) = EndOfType s at r
PlainEnd s at None = Unit {0}

-- what the first byte tells of a type: all its bytes, that one type stands behind it, or nothing
data Told (b : ℕ) (t : SignatureToken) : Type 0 where
  plain : wrapping b ≡ 0 → plain_width b ≡ length (encode t) → Told b t
  around : (u : SignatureToken) → wrapping b ≡ 1 → plain_width b ≡ 0 → encode t ≡ b ∷ encode u → Told b t
  untold : wrapping b ≡ 0 → plain_width b ≡ 0 → Told b t

told : {s : List ℕ} {at : ℕ} (t : SignatureToken) → At s at (encode t) → Told (get_or s at 0) t
unfolding encode
told Bool' h = rw (at_byte h) (plain refl refl)
told U8 h = rw (at_byte h) (plain refl refl)
told U64 h = rw (at_byte h) (plain refl refl)
told U128 h = rw (at_byte h) (plain refl refl)
told Address h = rw (at_byte h) (plain refl refl)
told Signer h = rw (at_byte h) (plain refl refl)
told (Vector t) h = rw (at_byte h) (around t refl refl refl)
told (Struct i) h = rw (at_byte h) (plain refl refl)
told (StructInstantiation i ts) h = rw (at_byte h) (untold refl refl)
told (Reference t) h = rw (at_byte h) (around t refl refl refl)
told (MutableReference t) h = rw (at_byte h) (around t refl refl refl)
told (TypeParameter i) h = rw (at_byte h) (plain refl refl)

module _ {s : List ℕ} {at : ℕ} (p : TypeAt s at) where
  -- a type with a width has that many bytes
  plain_here : {width : ℕ} → width ≡ plain_width (get_or s at 0) → 0 < width → width ≡ length (encode p.type)
  plain_here {width} e k = go (told p.type p.stands)
    where
      go : Told (get_or s at 0) p.type → width ≡ length (encode p.type)
      go (plain z l) = e ∙ l
      go (around u z l f) = absurd (omega arith)
      go (untold z l) = absurd (omega arith)

module _ {s : List ℕ} {at : ℕ} (p : TypeAt s at) where
  -- the type behind one command
  record Behind : Type 0 where
    pub inner : TypeAt s (at + 1)
    pub long : length (encode p.type) ≡ 1 + length (encode inner.type)

  behind : wrapping (get_or s at 0) ≡ 1 → Behind
  behind e = go (told p.type p.stands)
    where
      go : Told (get_or s at 0) p.type → Behind
      go (plain z l) = absurd (omega arith)
      go (around u z l f) = record { inner = record { type = u; stands = at_next (rw f at p.stands) }; long = ap length f ∙ omega arith }
      go (untold z l) = absurd (omega arith)

  -- the command that tells the rest is there
  pub next_within : (w : ℕ) → w ≡ wrapping (get_or s at 0) → at + w < length s
  next_within zero e = omega (arith, at_some p)
  next_within (suc zero) e = omega (arith, at_some (behind (sym e)).inner)
  next_within (suc (suc w)) e = absurd (omega (arith, around_most (opened (get_or s at 0))))

  pub plain_ends :
      (w width : ℕ) → w ≡ wrapping (get_or s at 0) → width ≡ plain_width (get_or s (at + w) 0) → 0 < width → at + w + width ≡ at + length (encode p.type)
  plain_ends zero width e f k = omega (arith, plain_here p (rw (add-zero at) at f) k)
  plain_ends (suc zero) width e f k = let i = behind (sym e) in omega (arith, plain_here i.inner f k, i.long)
  plain_ends (suc (suc w)) width e f k = absurd (omega (arith, around_most (opened (get_or s at 0))))

-- so many bytes the type has, where they are told
pub plain_long :
    {s : List ℕ} {at : ℕ} (p : TypeAt s at) → 0 < plain_width (get_or s (at + wrapping (get_or s at 0)) 0) →
    length (encode p.type) ≡ wrapping (get_or s at 0) + plain_width (get_or s (at + wrapping (get_or s at 0)) 0)
plain_long p k = omega (arith, plain_ends p _ _ refl refl k)

-- a command below a vector's is a leaf's
pub leaf_ends : {s : List ℕ} {at : ℕ} (p : TypeAt s at) → get_or s at 0 < 7 → length (encode p.type) ≡ 1
unfolding encode
leaf_ends {s} {at} p h = go p.type p.stands
  where
    go : (t : SignatureToken) → At s at (encode t) → length (encode t) ≡ 1
    go Bool' k = refl
    go U8 k = refl
    go U64 k = refl
    go U128 k = refl
    go Address k = refl
    go Signer k = refl
    go (Vector t) k = absurd (omega (arith, at_byte k))
    go (Struct i) k = absurd (omega (arith, at_byte k))
    go (StructInstantiation i ts) k = absurd (omega (arith, at_byte k))
    go (Reference t) k = absurd (omega (arith, at_byte k))
    go (MutableReference t) k = absurd (omega (arith, at_byte k))
    go (TypeParameter i) k = absurd (omega (arith, at_byte k))
