-- A Call, part by part: its thread opens a call, then each range is read, held or prepared. It is undone,
-- or it is a mark.
use Rattle.std.specs.Prelude.{◌≡◌, ℕ, ◌+◌, ◌-◌, ◌^◌, ◌<◌, Bool, true, false, List, [], ◌∷◌, ◌++◌, length, map, Some, slice_index, slice_set, All}
use Rattle.run_events.specs.declared.key.Class.TheVariants.{Async}
use Rattle.marks.specs.Places.{thread_count, is_constant, is_system}
use Rattle.marks.specs.declared.range.Range.{Range}
use Rattle.marks.specs.Ranges.{Piece, Prepared, covers, piece_ranges, prepared_ranges}
use Rattle.marks.specs.Marks.{Call, Event, Made, Mark}
use Rattle.marks.specs.Bytes.{touches, writes}
use Rattle.space_memory_bytes.specs.Areas.{AreaState, IsDead}
use Rattle.space_memory_bytes.specs.Numbers.{HasBytes}
use Rattle.space_memory_access.specs.declared.holder.OpenCall.{OpenCall}
use Rattle.space_memory_access.specs.declared.holder.Region.{Region}
use Rattle.space_memory_access.specs.declared.holder.Holder.{Holder}
use Rattle.space_memory_access.specs.declared.holder.Holder.TheVariants.{In, Out, Key}
use Rattle.space_memory_access.specs.Held.{innermost, without_call}
use Rattle.space_memory_access.specs.declared.refusal.Refusal.{Refusal}
use Rattle.space_memory_access.specs.Accesses.{IsAllowed}
use Rattle.replay_runs.specs.Runs.{Start, OfKey, has}
use Rattle.replay_runs.specs.Keys.{key}
use Rattle.replay_runs.specs.Pool.{prepares_key}
use Rattle.replay_runs.specs.Rules.{Apart, DistinctKeys}
use Rattle.replay_runs.specs.Passing.{NoneInUse}
use Rattle.space_memory.specs.Spaces.{SpaceState}
use Rattle.space_memory.specs.Cells.{is_held}
use Rattle.space_memory.specs.Held.{region_range, region_access, holder_of, IsRegionOf, AddsRegion, IsPrepareRefused}
use Rattle.space_memory_laws.specs.Held.{AreHeld}
use Rattle.space_memory_laws.specs.StandsFor.{StandsFor}
use Rattle.space_memory_laws.specs.Marks.{IsMark}

-- a part of a Call: a range that it reads, one that it holds until its Ret, or one that it prepares under a
-- key
pub data Part : Type 0 where
  Reads : (range : Range) → Part
  Holds : (range : Range) → Part
  Prepares : (key : ℕ) (range : Range) → Part

-- its range
abbrev pub range_of : Part → Range
range_of (Reads r) = r
range_of (Holds r) = r
range_of (Prepares k r) = r

-- whether its range may be written below the cut, and is pending until then
abbrev pub is_written : Part → Bool
is_written (Reads r) = false
is_written (Holds r) = true
is_written (Prepares k r) = true

-- how the call holds the region of a part
abbrev pub holder_for : OpenCall → Part → Holder
holder_for call (Reads r) = In call
holder_for call (Holds r) = Out call
holder_for call (Prepares k r) = Key k (Some call)

-- the part that `hold` adds
abbrev pub held_part : Bool → Range → Part
held_part true r = Holds r
held_part false r = Reads r

-- the part that `prepare` adds
abbrev pub prepared_part : Prepared → Part
prepared_part p = Prepares p.key p.range

-- the parts of a Call, in order
abbrev pub parts_of : List Range → List Range → List Prepared → List Part
parts_of ins outs prepared = map Reads ins ++ (map Holds outs ++ map prepared_part prepared)

-- each part has its region
abbrev pub HaveRegions : List AreaState → OpenCall → List Part → List Region → Type 0
HaveRegions bytes call [] [] = Unit {0}
HaveRegions bytes call (p ∷ ps) (r ∷ rs) = IsRegionOf bytes (range_of p) (holder_for call p) r ×
    HaveRegions bytes call ps rs
HaveRegions bytes call _ _ = ⊥

-- these regions were added, in this order
pub record AddsRegions (bytes : List AreaState) (call : OpenCall) (parts : List Part) (old new :
    List Region) : Type 0 where
  pub added : List Region
  pub regions : HaveRegions bytes call parts added
  pub all : new ≡ old ++ added

-- code above the cut may hand the part's range down: its bytes are of the own side, live, not pending, and
-- no constants
-- where they are written
pub record IsFree (memory : SpaceState) (p : Part) : Type 0 where
  pub own : (x : ℕ) → covers (range_of p) x ≡ true → is_system x ≡ false
  pub live : (x : ℕ) → covers (range_of p) x ≡ true → ¬ IsDead memory.bytes x
  pub free : (x : ℕ) → covers (range_of p) x ≡ true → is_held memory.held.regions x ≡ false
  pub writable : (x : ℕ) → covers (range_of p) x ≡ true → is_written p ≡ true → is_constant x ≡ false

-- memory while a thread makes a Call: it is that of the past, with one more call open, which has these
-- parts so far
pub record InCall (s : Start) (past : List Mark) (t : ℕ) (parts : List Part) (base memory : SpaceState) :
    Type 0 where
  pub thread : t < thread_count
  pub stands : StandsFor s past base
  pub rest : memory ≡ record base { held = memory.held }
  pub depths : memory.held.depths ≡ slice_set base.held.depths t (slice_index base.held.depths t + 1)
  pub regions : AddsRegions base.bytes (innermost memory.held t) parts base.held.regions memory.held.regions
  pub free : All (IsFree base) parts
  pub held : AreHeld memory.held

-- a call that is opened has no parts yet
abbrev pub OpenedCallsHaveNoParts : Type 0
OpenedCallsHaveNoParts =
    (s : Start) (past : List Mark) (old new : SpaceState) (t : ℕ) →
    StandsFor s past old →
    t < thread_count →
    new.held ≡ record old.held {
      depths = slice_set old.held.depths t (slice_index old.held.depths t + 1);
    } →
    new ≡ record old { held = new.held } →
    InCall s past t [] old new

-- a range that is held is one more part. A run has the empty range for that of a NULL pointer
abbrev pub HeldRangesAreParts : Type 0
HeldRangesAreParts =
    (s : Start) (past : List Mark) (base old new : SpaceState) (t : ℕ) (parts : List Part) (given : Range)
    (r : Range) (write : Bool) →
    InCall s past t parts base old →
    given.addr < 2 ^ 64 →
    region_range given ≡ r →
    AddsRegion old.bytes (region_range given) (holder_of write (innermost old.held t)) old.held new.held →
    new ≡ record old { held = new.held } →
    IsAllowed old.bytes old.held.regions (region_access t given write) →
    InCall s past t (parts ++ held_part write r ∷ []) base new

-- a range that is prepared is one more part
abbrev pub PreparedRangesAreParts : Type 0
PreparedRangesAreParts =
    (s : Start) (past : List Mark) (base old new : SpaceState) (t k : ℕ) (parts : List Part) (given :
    Range) (r : Range) →
    InCall s past t parts base old →
    given.addr < 2 ^ 64 →
    region_range given ≡ r →
    AddsRegion old.bytes (region_range given) (Key k (Some (innermost old.held t))) old.held new.held →
    new ≡ record old { held = new.held } →
    IsAllowed old.bytes old.held.regions (region_access t given true) →
    ((f : Refusal) → ¬ IsPrepareRefused old.bytes old.held.regions (region_access t given true) k f) →
    InCall s past t (parts ++ Prepares k r ∷ []) base new

-- a call that is undone leaves memory as it was before it was opened
abbrev pub UndoneCallsLeaveMemory : Type 0
UndoneCallsLeaveMemory =
    (s : Start) (past : List Mark) (base old new : SpaceState) (t : ℕ) (parts : List Part) →
    InCall s past t parts base old →
    new.held.regions ≡ without_call (innermost old.held t) old.held.regions →
    new.held.depths ≡ slice_set old.held.depths t (slice_index old.held.depths t - 1) →
    new ≡ record old { held = new.held } →
    new ≡ base

-- a piece has the bytes that memory has in its range
pub record IsShown (bytes : List AreaState) (p : Piece) : Type 0 where
  pub whole : length p.bytes ≡ p.range.len
  pub bytes_are : HasBytes bytes p.range.addr p.bytes

-- a Call that the rules of runs allow
pub record IsCall (s : Start) (past : List Mark) (m : Mark) (outs : List Range) (prepared : List Prepared)
    (new : SpaceState) : Type 0 where
  pub mark : IsMark s past m new
  pub other_space : (x : ℕ) → touches m.act x ≡ true → is_system x ≡ false
  pub read_only : (x : ℕ) → writes m.act x ≡ true → is_constant x ≡ false
  pub apart : Apart (outs ++ prepared_ranges prepared)
  pub distinct : DistinctKeys prepared
  pub free_keys : NoneInUse s past prepared

-- a call with all its parts is a Call
abbrev pub CallsAreMarks : Type 0
CallsAreMarks =
    (s : Start) (past : List Mark) (base new : SpaceState) (m : Mark) (e : Event) (func : ℕ) (args :
    List ℕ) (ins : List Piece) (outs : List Range) (prepared : List Prepared) →
    InCall s past m.thread (parts_of (piece_ranges ins) outs prepared) base new →
    m.act ≡ Made e →
    e.kind ≡ Call func args ins outs prepared →
    All (IsShown base.bytes) ins →
    ((k : ℕ) → prepares_key prepared k ≡ true → has m (OfKey (key Async k)) ≡ true) →
    IsCall s past m outs prepared new
