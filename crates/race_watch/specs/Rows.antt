-- Rows of what is known, by key.
use Rattle.std.specs.Prelude.{◌≡◌, ℕ, ◌<◌, max, if◌then◌else◌, List, [], ◌∷◌, Some, IsSome, get_or, slice_index, length, unwrap_or}
use Rattle.run_events.specs.declared.key.Key.{Key}
use Rattle.std.specs.BTreeMap.{BTreeMap, get, is_at}
use Rattle.std.specs.Map.{lookup}
use Rattle.logical_clock.specs.declared.name.KeyName.{KeyName}
use Rattle.logical_clock.specs.Names.{name, key_cmp, greatest_of}

-- the row of a key, in a list of keys; a number that isn't there is 0
abbrev pub row_at : List (KeyName × List ℕ) → KeyName → List ℕ
row_at keys k = unwrap_or (lookup (is_at (key_cmp k)) keys) []

-- and in a map
abbrev pub row_in : BTreeMap KeyName (List ℕ) → KeyName → List ℕ
row_in keys k = unwrap_or (get key_cmp keys k) []

-- so many rows of zeros
pub record AreBlank (n : ℕ) (rows : List (List ℕ)) : Type 0 where
  pub long : length rows ≡ n
  pub zeros : (t u : ℕ) → u < 32 → slice_index (get_or rows t []) u ≡ 0

-- how many events of u the last event with the key tells of
abbrev pub told_by : BTreeMap KeyName (List ℕ) → KeyName → ℕ → ℕ
told_by keys q u = slice_index (row_in keys q) u

-- and the last event with one of the keys
abbrev pub told_by_any : BTreeMap KeyName (List ℕ) → List Key → ℕ → ℕ
told_by_any keys of u = greatest_of (λ (k : Key). told_by keys (name k) u) of

-- a row that learns of each thread so many events
abbrev pub Learns : List ℕ → List ℕ → (ℕ → ℕ) → Type 0
Learns old new told = (u : ℕ) → u < 32 → slice_index new u ≡ max (slice_index old u) (told u)

-- the rows of keys are the same
abbrev pub AreSameRows : BTreeMap KeyName (List ℕ) → BTreeMap KeyName (List ℕ) → Type 0
AreSameRows old new = (q : KeyName) (u : ℕ) → u < 32 → told_by new q u ≡ told_by old q u

-- a key that has a place has it still
abbrev pub Keeps : BTreeMap KeyName (List ℕ) → BTreeMap KeyName (List ℕ) → Type 0
Keeps old new = (q : KeyName) → IsSome (get key_cmp old q) → IsSome (get key_cmp new q)

-- the row of one key is written
abbrev pub IsWritten : BTreeMap KeyName (List ℕ) → BTreeMap KeyName (List ℕ) → KeyName → List ℕ → Type 0
IsWritten old new key row = (q : KeyName) → get key_cmp new q ≡
    (if is_at (key_cmp key) q then Some row else get key_cmp old q)

-- each of the keys passes
abbrev pub Each : (Key → Type 0) → List Key → Type 0
Each P [] = Unit {0}
Each P (k ∷ ks) = P k × Each P ks
