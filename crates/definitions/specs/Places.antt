-- What stands at a position of a list of bytes: the words in which contracts over bytes are written.
use Rattle.std.specs.Prelude.{◌≡◌, List, [], ◌∷◌, ◌++◌, ℕ, ◌+◌, length, drop}
use Rattle.definitions.specs.SignatureToken.{SignatureToken, SignatureTokens, Signature, count, encode, encode_all}
use Rattle.definitions.specs.Reading.{read, Reader}

-- the bytes from `at` on begin with bs
pub record At (s : List ℕ) (at : ℕ) (bs : List ℕ) : Type 0 where
  pub rest : List ℕ
  pub here : drop at s ≡ bs ++ rest

-- some type stands at `at`
pub record TypeAt (s : List ℕ) (at : ℕ) : Type 0 where
  pub type : SignatureToken
  pub stands : At s at (encode type)

-- n types stand at `at`, one after the other
pub record TypesAt (s : List ℕ) (at n : ℕ) : Type 0 where
  pub types : SignatureTokens
  pub counted : count types ≡ n
  pub stands : At s at (encode_all types)

-- r is the end of the type at `at`
abbrev pub EndOfType : List ℕ → ℕ → ℕ → Type 0
EndOfType s at r = (p : TypeAt s at) → r ≡ at + length (encode p.type)

-- r is the end of the n types at `at`
abbrev pub EndOfTypes : List ℕ → ℕ → ℕ → ℕ → Type 0
EndOfTypes s at n r = (p : TypesAt s at n) → r ≡ at + length (encode_all p.types)

-- each of the types stands at its place
pub data Standing (s : List ℕ) : List ℕ → Signature → Type 0 where
  none : Standing s [] []
  more : {p : ℕ} {t : SignatureToken} {ps : List ℕ} {ts : Signature} → At s p (encode t) → Standing s ps ts → Standing s (p ∷ ps) (t ∷ ts)

-- the body of a record, whose command's place is p, is read as a
pub record RecordAt {A : Type 0} (body : Reader A) (s : List ℕ) (p : ℕ) (a : A) : Type 0 where
  pub ends : ℕ
  pub reads : body s (p + 1) ≡ read a ends

-- each record of a table stands at its place
pub data TableAt {A : Type 0} (body : Reader A) (s : List ℕ) : List ℕ → List A → Type 0 where
  none : TableAt body s [] []
  more : {p : ℕ} {a : A} {ps : List ℕ} {l : List A} → RecordAt body s p a → TableAt body s ps l → TableAt body s (p ∷ ps) (a ∷ l)
