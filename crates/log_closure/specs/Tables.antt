-- What the tables of the check hold.
use Rattle.std.specs.Prelude.{◌≡◌, ℕ, ◌<◌, if◌then◌else◌, ltb, length, slice_index_or, List, Option, Some, None, Result, Ok, Err}
use Rattle.std.specs.List.{All, slice_get}
use Rattle.std.specs.BTreeMap.{get}
use Rattle.std.specs.Global.{Vec}
use Rattle.std.specs.BTreeSet.{contains}
use Rattle.std.specs.declared.cmp.Ordering.{Ordering}
use Rattle.std.specs.Ordering.{nat_cmp, ordering_then}
use Rattle.log_closure.specs.declared.tie.Tie.{Tie}
use Rattle.log_closure.specs.declared.tie.TieKey.{TieKey}
use Rattle.log_closure.specs.declared.table.Table.{Table}
use Rattle.log_closure.specs.declared.grow.Grown.{Grown}
use Rattle.log_closure.specs.declared.error.OrderError.{OrderError}
use Rattle.log_closure.specs.declared.error.OrderError.TheVariants.{Memory}
use Rattle.log_closure.specs.Events.{LogEvent}
use Rattle.log_closure.specs.Ties.{listed, ties_of}
use Rattle.log_closure.specs.FirstWrong.{clock_at}

abbrev pub tie_cmp : Tie → Tie → Ordering
tie_cmp a b = ordering_then (nat_cmp a.class b.class)
    (ordering_then (nat_cmp a.value b.value) (nat_cmp a.number b.number))

abbrev pub key_cmp : TieKey → TieKey → Ordering
key_cmp a b = ordering_then (nat_cmp a.class b.class) (nat_cmp a.value b.value)

abbrev pub tie_key : Tie → TieKey
tie_key t = record { class = t.class; value = t.value }

-- the numbers of the keys that have one
abbrev pub Numbers : Type 0
Numbers = TieKey → Option ℕ

-- different keys have different numbers
abbrev pub AreApart : Numbers → Type 0
AreApart number = (j k : TieKey) (n : ℕ) → number j ≡ Some n → number k ≡ Some n → j ≡ k

-- the row with this number
abbrev pub row_at : List (Vec (Option ℕ)) → Option ℕ → Option (Vec (Option ℕ))
row_at rows None = None
row_at rows (Some n) = slice_get rows n

-- the clock in a row at a ticket, or the one apart where the row has no place for it
abbrev pub clock_in_row : Option (Vec (Option ℕ)) → ℕ → Option ℕ → Option ℕ
clock_in_row None n apart = apart
clock_in_row (Some row) n apart = if ltb n (length row.items) then slice_index_or row.items n None else apart

-- the rows have no clock
abbrev pub AreBlank : List (Vec (Option ℕ)) → Type 0
AreBlank rows = All (λ (row : Vec (Option ℕ)). (n : ℕ) → slice_index_or row.items n None ≡ None) rows

-- the clock in the table at a key and ticket
abbrev pub clock_in : Numbers → Table → Tie → Option ℕ
clock_in number table t = clock_in_row (row_at table.rows.items (number (tie_key t))) t.number
    (get tie_cmp table.rest t)

-- these are the clocks of the first events with each key and ticket
abbrev pub Owns : (Tie → Option ℕ) → List LogEvent → Type 0
Owns at es = (t : Tie) → 0 < t.class → at t ≡ clock_at es t

-- the keys and the lengths of threads are those of the part
pub record IsGrown (g : Grown) (part : List LogEvent) : Type 0 where
  pub of_keys : (t : Tie) → 0 < t.class → contains tie_cmp g.keys t ≡ listed (ties_of part) t
  pub wide : length g.lengths ≡ 256
  pub of_threads : (t n : ℕ) → t < 256 → ltb n (slice_index_or g.lengths t 0) ≡
      listed (ties_of part) (record { class = 0; value = t; number = n })

-- the error is the one that is wanted, or there was no memory
abbrev pub Answers : {X : Type 0} → Result X OrderError → Option OrderError → Type 0
Answers (Ok x) w = w ≡ None
Answers (Err Memory) w = Unit {0}
Answers (Err e) w = w ≡ Some e
