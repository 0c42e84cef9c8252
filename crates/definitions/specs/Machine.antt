-- Document 01's type machine: a stack of types, within an area (document 01's term: the lent work area, of which only the length
-- counts here). A step is a program that pops and pushes; what it looks up and tests does not touch the stack. `run` runs it, and is
-- the one place that knows the area, EMPTY_STACK and NO_ROOM.
use Rattle.std.specs.Prelude.{Bool, true, false, List, [], ◌∷◌, ℕ, zero, suc, ◌+◌, leb, length}
use Rattle.status.specs.declared.StatusCode.{StatusCode}
use Rattle.status.specs.declared.StatusCode.TheVariants.{EMPTY_STACK, NO_ROOM}
use Rattle.definitions.specs.Result.{Result, ok, err}
use Rattle.definitions.specs.SignatureToken.{SignatureToken, same, encode}

-- a value, a refusal, a pop and what follows it, or a push and what follows it
pub data Program (A : Type 0) : Type 0 where
  ret : A → Program A
  refuse : StatusCode → Program A
  take : (SignatureToken → Program A) → Program A
  put : SignatureToken → Program A → Program A

-- a program that leaves nothing but the stack
abbrev pub Step : Type 0
Step = Program (Unit {0})

infixl 30 ◌>>=◌
infixl 30 ◌>>◌
-- one program after another
unfoldable pub ◌>>=◌ : {A B : Type 0} → Program A → (A → Program B) → Program B
◌>>=◌ (ret a) f = f a
◌>>=◌ (refuse status) f = refuse status
◌>>=◌ (take k) f = take (λ t. k t >>= f)
◌>>=◌ (put t m) f = put t (m >>= f)

-- one program after another, without the first's value
abbrev pub ◌>>◌ : {A B : Type 0} → Program A → Program B → Program B
◌>>◌ m n = m >>= (λ _. n)

-- nothing more to do
unfoldable pub done : Step
done = ret tt

-- `stack.pop().unwrap()`
unfoldable pub pop : Program SignatureToken
pop = take ret

-- `stack.push(..)`
unfoldable pub push : SignatureToken → Step
push t = put t (ret tt)

-- a look-up; its refusal is the step's
unfoldable pub look : {A : Type 0} → Result A → Program A
look (ok a) = ret a
look (err status) = refuse status

-- a refusal where the test fails
unfoldable pub check : Bool → StatusCode → Step
check true status = ret tt
check false status = refuse status

-- pop one type and compare it with what f makes of t
unfoldable pub pop_one : StatusCode → (SignatureToken → Result SignatureToken) → SignatureToken → Step
pop_one status f t = do
  operand ← pop
  expected ← look (f t)
  check (same operand expected) status

-- one for each of the list
unfoldable pub pop_each : StatusCode → (SignatureToken → Result SignatureToken) → List SignatureToken → Step
pop_each status f [] = done
pop_each status f (t ∷ ts) = pop_one status f t >> pop_each status f ts

-- push what f makes of t
unfoldable pub push_one : (SignatureToken → Result SignatureToken) → SignatureToken → Step
push_one f t = do
  made ← look (f t)
  push made

-- one for each of the list
unfoldable pub push_each : (SignatureToken → Result SignatureToken) → List SignatureToken → Step
push_each f [] = done
push_each f (t ∷ ts) = push_one f t >> push_each f ts

-- pop so many, of any type
unfoldable pub pop_n : ℕ → Step
pop_n zero = done
pop_n (suc n) = do
  operand ← pop
  pop_n n

-- push one type so many times
unfoldable pub push_n : ℕ → SignatureToken → Step
push_n zero t = done
push_n (suc n) t = do
  _ ← push t
  push_n n t

-- ── running ──

-- the top first
abbrev pub Stack : Type 0
Stack = List SignatureToken

-- a value and the stack afterwards, or a refusal
pub data Outcome (A : Type 0) : Type 0 where
  got : A → Stack → Outcome A
  refused : StatusCode → Outcome A

-- document 01's weight: an entry weighs its bytes plus 2
unfoldable pub weight : Stack → ℕ
weight [] = 0
weight (t ∷ s) = weight s + (length (encode t) + 2)

-- a push is refused exactly when the total weight after it would pass the area's length
unfoldable pub run : {A : Type 0} → ℕ → Program A → Stack → Outcome A
run area (ret a) s = got a s
run area (refuse status) s = refused status
run area (take k) [] = refused EMPTY_STACK
run area (take k) (t ∷ s) = run area (k t) s
run area (put t m) s = elim (leb (weight (t ∷ s)) area) [ true ↦ run area m (t ∷ s) | false ↦ refused NO_ROOM ]
