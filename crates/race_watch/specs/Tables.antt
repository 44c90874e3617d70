-- What tables keep.
use Rattle.std.specs.Prelude.{◌≡◌, ◌≢◌, ◌⊎◌, nat_le, max, ℕ, ◌+◌, ◌*◌, ◌<◌, ◌≤◌, Bool, true, false, ◌||◌, ◌&&◌, nat_lt, ◌==◌, if◌then◌else◌, suc, slice_index, map, List, Option, Some, None, MatchOption}
use Rattle.std.specs.List.{range_with_len}
use Rattle.marks.specs.declared.range.Range.{Range}
use Rattle.marks.specs.Ranges.{IsInRange, covers}
use Rattle.race_watch_pages.specs.Kept.{kept, size}
use Rattle.race_watch.specs.declared.seen.Seen.{Seen}
use Rattle.race_watch.specs.declared.first.Tested.{Tested}
use Rattle.race_watch.specs.declared.tables.Tables.{Tables}
use Rattle.race_watch.specs.Cells.{cell_of, base_of}
use Rattle.race_watch.specs.declared.bytes.Bytes.{Bytes}
use Rattle.race_watch.specs.Hits.{Hits, In}

abbrev pub entry_cell : Tables → Bool → ℕ → Option ℕ → ℕ
entry_cell t read u None = 0
entry_cell t read u (Some c) = if nat_lt u t.threads then kept t.epochs (base_of u read + c) else 0

-- the epoch of a byte that is kept of the thread's last read of it, or of its last write
abbrev pub entry : Tables → Bool → ℕ → ℕ → ℕ
entry t read u x = entry_cell t read u (cell_of x)

-- the last access is the last read or the last write
abbrev pub newest : (Bool → ℕ → ℕ → ℕ) → Bool → ℕ → ℕ → ℕ
newest entries touched u x = if touched then max (entries true u x) (entries false u x) else entries false u x

-- the epoch of a byte, of the thread's last access of it or of its last write
abbrev pub at : Tables → Bool → ℕ → ℕ → ℕ
at t = newest (entry t)

-- the same in a list of the epochs of all cells
abbrev pub listed_cell : List ℕ → Bool → ℕ → Option ℕ → ℕ
listed_cell epochs read u None = 0
listed_cell epochs read u (Some c) = slice_index epochs (base_of u read + c)

abbrev pub listed_entry : List ℕ → Bool → ℕ → ℕ → ℕ
listed_entry epochs read u x = listed_cell epochs read u (cell_of x)

abbrev pub listed : List ℕ → Bool → ℕ → ℕ → ℕ
listed epochs = newest (listed_entry epochs)

-- the epochs of all cells
unfoldable pub cells_of : Tables → List ℕ
cells_of t = map (kept t.epochs) (range_with_len 0 (256 * size t.epochs))

-- there is room for each thread, and only those that are used made accesses
pub record AreTables (t : Tables) : Type 0 where
  pub size : size t.epochs ≡ t.threads * 0x8000
  pub few : t.threads ≤ 32
  pub used : t.used ≤ t.threads
  pub unused : (w : Bool) (u x : ℕ) → t.used ≤ u → at t w u x ≡ 0

-- the access isn't known to follow u's last one of the byte that counts
pub record HasEpoch (a : Tested) (epochs : Bool → ℕ → ℕ → ℕ) (x u : ℕ) : Type 0 where
  pub other : u ≢ a.thread
  pub unknown : slice_index a.known.now u < epochs a.write u x

-- no access of these bytes is unknown
abbrev pub NoneUnknown : Tested → (Bool → ℕ → ℕ → ℕ) → Bytes → Type 0
NoneUnknown a epochs b = (x u : ℕ) → b.from ≤ x → x < b.to → HasEpoch a epochs x u → ⊥

-- the access isn't known to follow u's last one of the byte, of some bytes alone
abbrev pub HasEpochIn : Tested → (Bool → ℕ → ℕ → ℕ) → Bytes → ℕ → ℕ → Type 0
HasEpochIn a epochs b x u = HasEpoch a epochs x u × (b.from ≤ x) × (x < b.to)

-- it races with one that was seen, by u
abbrev pub HasHit : Tested → List Seen → ℕ → ℕ → Type 0
HasHit a seen x u = (s : Seen) × In s seen × (s.thread ≡ u) × Hits a s x

-- it races with one that was seen, or isn't known to follow one of the tables
abbrev pub HasEither : Tested → List Seen → (Bool → ℕ → ℕ → ℕ) → ℕ → ℕ → Type 0
HasEither a seen epochs x u = HasHit a seen x u ⊎ HasEpoch a epochs x u

-- the least byte of the range for which something holds with a thread, and the least thread of those
pub record IsLeastOf (range : Range) (R : ℕ → ℕ → Type 0) (addr other : ℕ) : Type 0 where
  pub in_range : IsInRange range addr
  pub holds : R addr other
  pub least : (x u : ℕ) → IsInRange range x → R x u → (addr ≤ x) × (x ≡ addr → other ≤ u)

abbrev pub IsFirst : Range → (ℕ → ℕ → Type 0) → Option (ℕ × ℕ) → Type 0
IsFirst range R result = MatchOption result ((x u : ℕ) → IsInRange range x → R x u →
    ⊥) (λ p. IsLeastOf range R p.0 p.1)

-- and of some bytes alone
pub record IsLeastFrom (from to : ℕ) (R : ℕ → ℕ → Type 0) (addr other : ℕ) : Type 0 where
  pub low : from ≤ addr
  pub high : addr < to
  pub holds : R addr other
  pub least : (x u : ℕ) → from ≤ x → x < to → R x u → (addr ≤ x) × (x ≡ addr → other ≤ u)

abbrev pub IsFirstFrom : ℕ → ℕ → (ℕ → ℕ → Type 0) → Option (ℕ × ℕ) → Type 0
IsFirstFrom from to R result = MatchOption result ((x u : ℕ) → from ≤ x → x < to → R x u →
    ⊥) (λ p. IsLeastFrom from to R p.0 p.1)

-- the least thread for which something holds
pub record IsLeastThread (R : ℕ → Type 0) (other : ℕ) : Type 0 where
  pub holds : R other
  pub least : (u : ℕ) → R u → other ≤ u

abbrev pub IsFirstThread : (ℕ → Type 0) → Option ℕ → Type 0
IsFirstThread R result = MatchOption result ((u : ℕ) → R u → ⊥) (λ u. IsLeastThread R u)

-- the access, after so many events of its thread
abbrev pub seen_at : Tested → ℕ → Seen
seen_at a place = record { thread = a.thread; place = place; range = a.range; write = a.write }

-- epochs with one access more
abbrev pub ArePut : (Bool → ℕ → ℕ → ℕ) → (Bool → ℕ → ℕ → ℕ) → Seen → Type 0
ArePut old new one = (touched : Bool) (u x : ℕ) →
    new touched u x ≡ (if one.thread == u && ((touched || one.write) && covers one.range x)
    then suc one.place else old touched u x)

-- the epochs of some bytes are written, of a thread's accesses, and of its writes where it writes
abbrev pub IsPut : Bytes → ℕ → Bool → ℕ → (Bool → ℕ → ℕ → ℕ) → (Bool → ℕ → ℕ → ℕ) → Type 0
IsPut b thread write epoch old new = (w : Bool) (u x : ℕ) →
    new w u x ≡ (if thread == u && ((w || write) && (nat_le b.from x && nat_lt x b.to)) then epoch
    else old w u x)

-- zeros, over so many threads
pub record AreBlankTables (threads : ℕ) (t : Tables) : Type 0 where
  pub tables : AreTables t
  pub many : t.threads ≡ threads
  pub zeros : (w : Bool) (u x : ℕ) → at t w u x ≡ 0
