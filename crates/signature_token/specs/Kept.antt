-- What a `TypeRef` keeps says of the bytes at its place.
use Rattle.std.specs.Prelude.{◌≡◌, ℕ, ◌+◌, ◌*◌, ◌≤◌, ◌<◌, length, get_or}
use native.Mathlib.Omega.{arith}
use Rattle.definitions.specs.Places.{TypeAt, TypesAt}
use Rattle.type_commands.specs.Plain.{wrapping}
use Rattle.signature_token.specs.declared.TypeRef.{TypeRef}
use Rattle.signature_token.specs.Token.{shape_of, token_of, token_by, least_by, room_by, token_by_law, at_some}
use Rattle.signature_token.specs.Plain.{next_within, plain_long, leaf_ends}
use Rattle.signature_token.specs.Passing.{one_type}

module _ (ty : TypeRef) where
  -- there is a first one
  pub within : ty.at < length ty.bytes.now
  within = at_some ty.stands

  -- those of the u16 behind the command are there where its shape has one, and a count's
  pub index_there : 3 ≤ least_by (shape_of (get_or ty.bytes.now ty.at 0)) → ty.at + 1 + 1 < length ty.bytes.now
  index_there l = omega (arith, room_by ty.stands)

  pub count_there : 4 ≤ least_by (shape_of (get_or ty.bytes.now ty.at 0)) → ty.at + 3 < length ty.bytes.now
  count_there l = omega (arith, room_by ty.stands)

  -- they tell the type, taken apart
  pub token_told :
      (p : TypeAt ty.bytes.now ty.at) →
      token_of p.type ty.at
      ≡ token_by (shape_of (get_or ty.bytes.now ty.at 0)) (get_or ty.bytes.now ty.at 0)
      (get_or ty.bytes.now (ty.at + 1) 0 + 256 * get_or ty.bytes.now (ty.at + 1 + 1) 0) (get_or ty.bytes.now (ty.at + 3) 0) ty.at
  token_told p = token_by_law p

  -- the command that tells the rest is there
  pub told_within : (w : ℕ) → w ≡ wrapping (get_or ty.bytes.now ty.at 0) → ty.at + w < length ty.bytes.now
  told_within w e = next_within ty.stands w e

  -- it is a list of one type
  pub alone : TypesAt ty.bytes.now ty.at 1
  alone = one_type ty.stands

-- ── what the functions ask ──

pub ruleset token_laws = (within, index_there, count_there, token_told)

pub ruleset plain_laws = (within, told_within, plain_long)

pub ruleset end_laws = (within, alone, leaf_ends)
