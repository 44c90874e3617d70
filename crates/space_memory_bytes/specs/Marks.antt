-- Bytes as marks beside values, and what is said of a list of bytes.
use Rattle.std.specs.Prelude.{◌≡◌, ◌≢◌, ℕ, ◌+◌, ◌-◌, ◌<◌, ◌≤◌, ◌==◌, List, [], ◌∷◌, ◌++◌, replicate, length, slice_index, slice_index_or, Option, Some, None, if◌then◌else◌}
use Rattle.marks.specs.Ranges.{covers}
use Rattle.space_memory_bytes.specs.Numbers.{digit}

-- a byte lives where its mark is 1
abbrev pub marked : ℕ → ℕ → Option ℕ
marked mark value = if mark == 1 then Some value else None

-- bytes, each by its mark and its value
unfoldable pub cells_of : List ℕ → List ℕ → List (Option ℕ)
cells_of [] values = []
cells_of (mark ∷ marks) [] = []
cells_of (mark ∷ marks) (value ∷ values) = marked mark value ∷ cells_of marks values

-- so many bytes, of which those past the marks are dead
unfoldable pub cells_in : ℕ → List ℕ → List ℕ → List (Option ℕ)
cells_in size marks values = cells_of marks values ++ replicate (size - length marks) None

-- as many values as marks, at most one for each of so many bytes; a mark is 0 or 1
pub record AreMarks (size : ℕ) (marks values : List ℕ) : Type 0 where
  pub same : length values ≡ length marks
  pub within : length marks ≤ size
  pub bits : (k : ℕ) → slice_index marks k ≤ 1

-- each of the n bytes from a place on is there, and live
abbrev pub AreLive : List (Option ℕ) → ℕ → ℕ → Type 0
AreLive cells at n = (i : ℕ) → i < n → slice_index_or cells (at + i) None ≢ None

-- the n bytes from a place on are the low bytes of the number, the lowest first
abbrev pub HasDigits : List (Option ℕ) → ℕ → ℕ → ℕ → Type 0
HasDigits cells at n value = (i : ℕ) → i < n → slice_index_or cells (at + i) None ≡ Some (digit value i)

-- the bytes of a range are as a list by place says, and all others are as before
pub record PutsAt (at n : ℕ) (bytes : ℕ → Option ℕ) (old new : List (Option ℕ)) : Type 0 where
  pub size : length new ≡ length old
  pub cells : (k : ℕ) → slice_index_or new k None ≡
      (if covers (record { addr = at; len = n }) k then bytes (k - at) else slice_index_or old k None)

-- the n bytes from a place on are the given one
abbrev pub FillsCells : ℕ → ℕ → Option ℕ → List (Option ℕ) → List (Option ℕ) → Type 0
FillsCells at n byte = PutsAt at n (λ i. byte)

-- the bytes from a place on are those of the list
abbrev pub PutsCells : ℕ → List ℕ → List (Option ℕ) → List (Option ℕ) → Type 0
PutsCells at bytes = PutsAt at (length bytes) (λ i. Some (slice_index bytes i))

-- the n bytes from a place on are the low bytes of the value, the lowest first
abbrev pub WritesDigits : ℕ → ℕ → ℕ → List (Option ℕ) → List (Option ℕ) → Type 0
WritesDigits at n value = PutsAt at n (λ i. Some (digit value i))
