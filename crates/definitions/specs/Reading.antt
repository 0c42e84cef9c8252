-- Reading bytes left to right. A reader is given the unit's bytes and a position, and answers a value with the position of the next
-- byte, or the refusal's status with the byte that it is about. A missing byte is SHORT at the unit's length.
use Rattle.std.specs.Prelude.{Bool, true, false, ◌&&◌, List, [], ◌∷◌, ℕ, zero, suc, ◌+◌, ◌*◌, ltb, leb, eqb, length, get_or}
use Rattle.status.specs.declared.StatusCode.{StatusCode}
use Rattle.status.specs.declared.StatusCode.TheVariants.{SHORT}

-- a value and the next byte's position, or a status and the position that it is about
pub data Read (A : Type 0) : Type 0 where
  read : A → ℕ → Read A
  stop : StatusCode → ℕ → Read A

-- what reads an A, of the unit's bytes and a position
abbrev pub Reader : Type 0 → Type 0
Reader A = List ℕ → ℕ → Read A

-- go on with the value from the next byte; a refusal stays
unfoldable pub next : {A B : Type 0} → Read A → (A → ℕ → Read B) → Read B
next (read a e) f = f a e
next (stop status p) f = stop status p

infixl 30 ◌>>=◌
infixl 30 ◌>>◌
-- one reader after another
unfoldable pub ◌>>=◌ : {A B : Type 0} → Reader A → (A → Reader B) → Reader B
◌>>=◌ m f s at = next (m s at) (λ a e. f a s e)

-- one reader after another, without the first's value
unfoldable pub ◌>>◌ : {A B : Type 0} → Reader A → Reader B → Reader B
◌>>◌ m n s at = next (m s at) (λ _ e. n s e)

-- a value, with no byte read
unfoldable pub give : {A : Type 0} → A → Reader A
give a s at = read a at

-- a refusal of the byte p
unfoldable pub fail : {A : Type 0} → StatusCode → ℕ → Reader A
fail status p s at = stop status p

-- the position
unfoldable pub here : Reader ℕ
here s at = read at at

-- a refusal of the byte p, where the test fails
unfoldable pub need : Bool → StatusCode → ℕ → Reader (Unit {0})
need true status p s at = read tt at
need false status p s at = stop status p

-- the next byte
unfoldable pub byte : Reader ℕ
byte s at = elim (ltb at (length s)) [ true ↦ read (get_or s at 0) (at + 1) | false ↦ stop SHORT (length s) ]

-- numbers are little-endian, and judged when they are whole
unfoldable pub u16 : Reader ℕ
u16 = do
  lo ← byte
  hi ← byte
  give (lo + 256 * hi)

-- a number of n bytes
unfoldable pub number : ℕ → Reader ℕ
number zero = give 0
number (suc n) = do
  lo ← byte
  hi ← number n
  give (lo + 256 * hi)

-- n bytes that are not kept
unfoldable pub skip : ℕ → Reader (Unit {0})
skip n s at = elim (leb (at + n) (length s)) [ true ↦ read tt (at + n) | false ↦ stop SHORT (length s) ]

-- whether the next byte is c; a missing byte is not
unfoldable pub opens : ℕ → Reader Bool
opens c s at = read (ltb at (length s) && eqb (get_or s at 0) c) at

-- n of a kind
unfoldable pub many : {A : Type 0} → ℕ → Reader A → Reader (List A)
many zero r = give []
many (suc n) r = do
  a ← r
  rest ← many n r
  give (a ∷ rest)

-- what stands at a byte
pub record Placed (A : Type 0) : Type 0 where
  pub start : ℕ
  pub item : A

-- what is read, with the place of its first byte
unfoldable pub placed : {A : Type 0} → Reader A → Reader (Placed A)
placed r = do
  p ← here
  a ← r
  give (record { start = p; item = a })
