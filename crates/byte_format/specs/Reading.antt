-- Reading bytes from left to right. What a format is stands in its spelling; this says what its readers
-- answer.
use Rattle.std.specs.Prelude.{◌≡◌, ℕ, zero, suc, ◌+◌, ◌*◌, Bool, true, false, nat_lt, nat_le, ◌==◌, ◌&&◌, if◌then◌else◌, List, [], ◌∷◌, ◌++◌, length, take, drop, Option, Some, None, Result, Ok, Err}
use Rattle.std.specs.Int.{Width, byte_len, from_be_bytes}
use Rattle.byte_format.specs.declared.stop.Stop.{Stop}
use Rattle.byte_format.specs.declared.stop.Stop.TheVariants as stop

-- a value and the bytes after it; or the bytes end in the middle of a value; or how many bytes are left
-- from the first wrong one on
pub data Reading (A : Type 0) : Type 0 where
  Done : A × List ℕ → Reading A
  Short : Reading A
  Wrong : ℕ → Reading A

-- one reading after the other
infixl 10 ◌>>=◌
abbrev pub ◌>>=◌ : {A B : Type 0} → Reading A → (A × List ℕ → Reading B) → Reading B
(Done x) >>= f = f x
Short >>= f = Short
(Wrong n) >>= f = Wrong n

-- ---- what a function that reads says of its result

-- it stopped where the reading stops, or memory ran out
abbrev pub Stops : {Y : Type 0} → Stop → Reading Y → Type 0
Stops stop.Memory reading = Unit {0}
Stops stop.Short reading = reading ≡ Short
Stops (stop.Wrong n) reading = reading ≡ Wrong n

-- seen by view, the result is what the reading gives
abbrev pub Gives : {X Y : Type 0} → (X → Y × List ℕ) → Result X Stop → Reading Y → Type 0
Gives view (Ok x) reading = reading ≡ Done (view x)
Gives view (Err e) reading = Stops e reading

-- the same of a function that adds items to a list: where the bytes end it has added those that were read
-- before
abbrev pub StopsAfter : {A Y : Type 0} → List A → List A → Stop → Reading Y → List A → Type 0
StopsAfter old new stop.Memory reading read = Unit {0}
StopsAfter old new stop.Short reading read = (reading ≡ Short) × (new ≡ old ++ read)
StopsAfter old new (stop.Wrong n) reading read = reading ≡ Wrong n

abbrev pub with_prefix : {A : Type 0} → List A → Reading (List A) → Reading (List A)
with_prefix prefix (Done x) = Done (prefix ++ x.0, x.1)
with_prefix prefix Short = Short
with_prefix prefix (Wrong n) = Wrong n

abbrev pub Adds : {A X : Type 0} → (X → List ℕ) → List A → List A → Result X Stop → Reading (List A) →
    List A → Type 0
Adds view old new (Ok rest) reading read = with_prefix old reading ≡ Done (new, view rest)
Adds view old new (Err e) reading read = StopsAfter old new e reading read

-- ---- numbers and bytes

-- a number of fixed width, the high byte first
abbrev pub number_at : Width → List ℕ → Reading ℕ
number_at w bytes = if nat_lt (length bytes) (byte_len w) then Short else Done
    (from_be_bytes w (take (byte_len w) bytes), drop (byte_len w) bytes)

-- this many bytes
abbrev pub chars_at : ℕ → List ℕ → Reading (List ℕ)
chars_at n bytes = if nat_lt (length bytes) n then Short else Done (take n bytes, drop n bytes)

-- a byte that stands for a value
abbrev pub coded : {A : Type 0} → Option A → List ℕ → Reading A
coded (Some a) rest = Done (a, rest)
coded None rest = Wrong (suc (length rest))

abbrev pub coded_at : {A : Type 0} → (ℕ → Option A) → List ℕ → Reading A
coded_at from [] = Short
coded_at from (b ∷ rest) = coded (from b) rest

-- a byte that is a number up to the most
abbrev pub at_most : ℕ → ℕ → Option ℕ
at_most most b = if nat_le b most then Some b else None

-- this very byte
abbrev pub only : ℕ → ℕ → Option ℕ
only expected b = if b == expected then Some b else None

-- 0 or 1
abbrev pub flag_from : ℕ → Option Bool
flag_from b = if b == 0 then Some false else if b == 1 then Some true else None

-- these very bytes
unfoldable pub literal_at : List ℕ → List ℕ → Reading (Unit {0})
literal_at [] bytes = Done (tt, bytes)
literal_at (b ∷ bs) bytes = do
  first ← coded_at (only b) bytes
  literal_at bs first.1

-- the low byte after a high one, of a number that is not 0
abbrev pub low_from : ℕ → ℕ → Option ℕ
low_from high b = if (high == 0) && (b == 0) then None else at_most 255 b

-- a number of two bytes that is not 0
unfoldable pub some_at : List ℕ → Reading ℕ
some_at bytes = do
  high ← coded_at (at_most 255) bytes
  low ← coded_at (low_from high.0) high.1
  Done (high.0 * 256 + low.0, low.1)

-- ---- lists

-- this many items
unfoldable pub list_at : {A : Type 0} → (List ℕ → Reading A) → ℕ → List ℕ → Reading (List A)
list_at item zero bytes = Done ([], bytes)
list_at item (suc n) bytes = do
  first ← item bytes
  others ← list_at item n first.1
  Done (first.0 ∷ others.0, others.1)

-- a byte that counts, up to the most, and that many items
unfoldable pub counted_at : {A : Type 0} → (List ℕ → Reading A) → ℕ → List ℕ → Reading (List A)
counted_at item most bytes = do
  n ← coded_at (at_most most) bytes
  list_at item n.0 n.1

-- what follows where a reading is done
abbrev pub after : {A B : Type 0} → Reading A → (A × List ℕ → List B) → List B
after (Done x) f = f x
after Short f = []
after (Wrong n) f = []

-- of this many items, those that are read before the reading stops
unfoldable pub read_list : {A : Type 0} → (List ℕ → Reading A) → ℕ → List ℕ → List A
read_list item zero bytes = []
read_list item (suc n) bytes = after (item bytes) (λ x. x.0 ∷ read_list item n x.1)
