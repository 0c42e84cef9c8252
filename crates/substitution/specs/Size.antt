-- How many bytes a type has whose parameters are replaced. The count stands still once it is over 65,535, the longest area, while the
-- numbers of the parameters are tested to the end.
use Rattle.std.specs.Prelude.{◌≡◌, refl, Result as Answer, Ok, Err, List, ℕ, ◌+◌, ◌≤◌, min, length}
use Rattle.std.proofs.Common.{ap, ap₂, ◌∙◌, append-nil, arith, length-append}
use Rattle.status.specs.declared.StatusCode.{StatusCode}
use Rattle.definitions.specs.Result.{Result, ok, err, ◌>>?◌}
use Rattle.definitions.specs.SignatureToken.{encode, encode_all}
use Rattle.definitions.specs.Places.{TypeAt, TypesAt}
use Rattle.signature_token.specs.declared.Token.{Token}
use Rattle.signature_token.specs.declared.Token.TheVariants.{Leaf}
use Rattle.signature_token.specs.Token.{TokenAt}
use Rattle.signature_token.specs.Ends.{type_room, leaf_end}
use Rattle.signature_token.specs.Passing.{one_type}
use Rattle.substitution.specs.declared.Size.{Size}
use Rattle.type_places.specs.Arguments.{Arguments}
use Rattle.substitution.specs.Bytes.{part_long}
use Rattle.substitution.specs.Instantiate.{filled, filled_all, after, leaf_filled, filled_one}
use Rattle.substitution.specs.Filling.{Filling, Room}

-- ── the words ──

-- a length as it is told
abbrev pub capped : ℕ → ℕ
capped n = min n 65536

abbrev pub size : ℕ → ℕ → Size
size next len = record { next = next; len = len }

-- the answer for a type that ends at `next` and gives these bytes, after len bytes
unfoldable pub size_from : ℕ → ℕ → Result (List ℕ) → Answer Size StatusCode
size_from len next (ok bs) = Ok (size next (capped (len + length bs)))
size_from len next (err status) = Err status

-- r is len with `more` bytes added
pub record Grown (len more r : ℕ) : Type 0 where
  pub is : r ≡ capped (len + more)

-- r is the size of the type at `at` of ty with the arguments in its parameters' places
pub record SizeAt (ty : List ℕ) (at : ℕ) (args places : List ℕ) (r : Answer Size StatusCode) : Type 0 where
  pub is : (p : TypeAt ty at) (a : Arguments args places) → r ≡ size_from 0 (at + length (encode p.type)) (filled p.type a.subst)

-- the same of n types
pub record SizesAt (ty : List ℕ) (at n : ℕ) (args places : List ℕ) (r : Answer Size StatusCode) : Type 0 where
  pub is : (q : TypesAt ty at n) (a : Arguments args places) → r ≡ size_from 0 (at + length (encode_all q.types)) (filled_all q.types a.subst)

-- the same of the argument at `from`
pub record ArgumentSize (args : List ℕ) (from len r : ℕ) : Type 0 where
  pub is : (p : TypeAt args from) → r ≡ capped (len + length (encode p.type))

-- ── what an answer tells ──

pub record Sized (len e : ℕ) (x : Result (List ℕ)) (r : Size) : Type 0 where
  pub bytes : List ℕ
  pub here : x ≡ ok bytes
  pub ends : r.next ≡ e
  pub long : r.len ≡ capped (len + length bytes)

pub sized : (len e : ℕ) (x : Result (List ℕ)) {r : Size} → Ok r ≡ size_from len e x → Sized len e x r
unfolding size_from
sized len e (ok bs) {r} k = let z : r ≡ size e (capped (len + length bs)) = cc in rw z (record { bytes = bs; here = refl; ends = refl; long = refl })
sized len e (err z) k = absurd cc

pub not_sized : (len e : ℕ) (x : Result (List ℕ)) {status : StatusCode} → Err status ≡ size_from len e x → x ≡ err status
unfolding size_from
not_sized len e (ok bs) k = absurd cc
not_sized len e (err z) k = cc

module _ {ty : List ℕ} {at : ℕ} {args places : List ℕ} {r : Size} (s : SizeAt ty at args places (Ok r)) (p : TypeAt ty at) (a : Arguments args places) where
  pub was : Sized 0 (at + length (encode p.type)) (filled p.type a.subst) r
  was = sized 0 (at + length (encode p.type)) (filled p.type a.subst) (s.is p a)

  -- a size is that of bytes which are there
  abbrev pub size_filling : Filling ty at args places
  size_filling = record { from = p; list = a; bytes = was.bytes; is = was.here }

  pub size_long : r.len ≡ capped (length size_filling.bytes)
  size_long = omega (arith, was.long)

  -- and which have room where it has
  pub size_room : {w room : ℕ} → w + r.len ≤ room → room ≤ 65535 → Room ty at args places w room
  size_room l k = record { filling = size_filling; fits = omega (arith, size_long) }

-- ── bytes in front of others ──

-- they are counted first
pub size_after :
    {k len x : ℕ} (e : ℕ) (bs : List ℕ) (r : Result (List ℕ)) → length bs ≡ k → Grown len k x → size_from x e r ≡ size_from len e (after bs r)
unfolding size_from after ◌>>?◌
size_after {k} {len} {x} e bs (ok cs) l g = let h = g.is in ap (λ (n : ℕ). Ok (size e n)) (omega (arith, length-append bs cs))
size_after e bs (err z) l g = refl

-- ── one type ──

-- a leaf is one byte
pub leaf_alone : {ty : List ℕ} {at : ℕ} {r : Token} {args places : List ℕ} {b : ℕ} → TokenAt ty at r → r ≡ Leaf b → SizeAt ty at args places (Ok (size (at + 1) 1))
unfolding size_from
leaf_alone {ty} {at} w e = record {
  is = λ p a.
      let l = part_long ty at 1 (omega (arith, leaf_end w e p, type_room p)) in
      rw (leaf_filled w p a.subst e, l, ← leaf_end w e p);
}

-- a list of one type
pub one_size : {ty : List ℕ} {at : ℕ} {args places : List ℕ} {r : Answer Size StatusCode} → SizesAt ty at 1 args places r → SizeAt ty at args places r
unfolding one_type encode
one_size {at = at} f = record {
  is = λ p a.
      f.is (one_type p) a
      ∙ ap₂ (size_from 0) (ap (λ (bs : List ℕ). at + length bs) (append-nil (encode p.type))) (filled_one p.type a.subst);
}
