-- What the pack and the unpack of declared fields promise: the rest of `pack` and `unpack` once the struct is known.
use Rattle.std.specs.Prelude.{List, reverse, ℕ}
use Rattle.status.specs.declared.StatusCode.TheVariants.{PACK_TYPE_MISMATCH_ERROR}
use Rattle.definitions.specs.Result.{ok}
use Rattle.definitions.specs.SignatureToken.{Signature}
use Rattle.definitions.specs.Substitution.{materialize_type, instantiate_each}
use Rattle.definitions.specs.Machine.{Step, ◌>>=◌, ◌>>◌, look, push, pop_each, push_each}
use Rattle.signature_token.specs.declared.SignatureView.{SignatureView}
use Rattle.record_views.specs.Records.{TypesIn}
use Rattle.type_stack.specs.Stepping.{StepsTo}
use Rattle.type_stack.specs.Answers.{Stepped}

-- `pack` of the fields ts, with the type arguments as
unfoldable pub pack_fields : ℕ → Signature → Signature → Step
pack_fields h ts as' = do
  fields ← look (instantiate_each ts as')
  pop_each PACK_TYPE_MISMATCH_ERROR ok (reverse fields)
  push (materialize_type h as')

-- `unpack` into them
unfoldable pub unpack_fields : Signature → Signature → Step
unpack_fields ts as' = do
  fields ← look (instantiate_each ts as')
  push_each ok fields

pub record PacksFields (h : ℕ) (fields list : SignatureView) (a : List ℕ) (w : ℕ) (b : List ℕ) (r : Stepped) : Type 0 where
  pub steps : (p : TypesIn fields) (q : TypesIn list) → StepsTo (pack_fields h p.types q.types) a w b r

pub record UnpacksFields (fields list : SignatureView) (a : List ℕ) (w : ℕ) (b : List ℕ) (r : Stepped) : Type 0 where
  pub steps : (p : TypesIn fields) (q : TypesIn list) → StepsTo (unpack_fields p.types q.types) a w b r
