-- What is kept of each key that was seen, and its number: its place among them.
use Rattle.std.specs.Prelude.{◌≡◌, ℕ, suc, ◌+◌, Bool, if◌then◌else◌, List, [], ◌∷◌, Option, Some, None, slice_get}
use Rattle.std.specs.List.{AllZip}
use Rattle.std.specs.Map.{lookup, values_of}
use Rattle.std.specs.Option.{option_map, unwrap_or}
use Rattle.run_events.specs.declared.key.Key.{Key}
use Rattle.logical_clock.specs.Names.{name, same_name, is_named}
use Rattle.logical_clock.specs.declared.name.KeyName.{KeyName}
use Rattle.logical_clock.specs.declared.keys.Counted.{Counted}
use Rattle.logical_clock.specs.declared.keys.Keys.{Keys}

abbrev pub nothing : Counted
nothing = record { events = 0; clock = 0 }

-- what is kept of the key
abbrev pub counted_at : List (KeyName × Counted) → KeyName → Counted
counted_at es q = unwrap_or (lookup (same_name q) es) nothing

abbrev pub counted_in : Keys → KeyName → Counted
counted_in keys q = counted_at keys.rows.entries q

-- how many events have the key, and the clock of the last of them
abbrev pub events_of : Keys → Key → ℕ
events_of keys k = (counted_in keys (name k)).events

abbrev pub clock_of : Keys → Key → ℕ
clock_of keys k = (counted_in keys (name k)).clock

-- the number of the key
abbrev pub number_at : List (KeyName × Counted) → KeyName → Option ℕ
number_at [] q = None
number_at (e ∷ es) q = if same_name q e.0 then Some 0 else option_map suc (number_at es q)

abbrev pub number_in : Keys → KeyName → Option ℕ
number_in keys q = number_at keys.rows.entries q

-- what is kept of the key with the number
abbrev pub row_at : List (KeyName × Counted) → ℕ → Counted
row_at es n = unwrap_or (slice_get (values_of es) n) nothing

abbrev pub row : Keys → ℕ → Counted
row keys n = row_at keys.rows.entries n

-- the keys that had a number have it still
abbrev pub Keeps : Keys → Keys → Type 0
Keeps old new = (q : KeyName) (n : ℕ) → number_in old q ≡ Some n → number_in new q ≡ Some n

-- the same is kept of each key
abbrev pub KeepsSame : Keys → Keys → Type 0
KeepsSame old new = (q : KeyName) → counted_in new q ≡ counted_in old q

-- these are the numbers of the keys
abbrev pub HaveNumbers : (KeyName → Option ℕ) → List Key → List ℕ → Type 0
HaveNumbers number ks ns = AllZip (λ (k : Key) (n : ℕ). number (name k) ≡ Some n) ks ns

-- what is kept after one event more, with this clock
abbrev pub one_more : ℕ → Counted → Counted
one_more clock c = record { events = c.events + 1; clock = clock }

-- the same of a key, which the event has or not
abbrev pub after : Bool → ℕ → Counted → Counted
after has clock c = if has then one_more clock c else c

-- what is kept after one event more, which has these keys
abbrev pub AreCounted : Keys → Keys → List Key → ℕ → Type 0
AreCounted old new of clock = (q : KeyName) →
    counted_in new q ≡ after (is_named of q) clock (counted_in old q)
