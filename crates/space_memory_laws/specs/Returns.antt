-- Rets: the marks that `release` is, and what the checks of a run find where it refuses one.
use Rattle.std.specs.Prelude.{if◌then◌else◌, ◌≡◌, ◌↔◌, ℕ, ◌<◌, ◌≤◌, ◌==◌, Bool, true, not, List, [], ◌∷◌, ◌++◌, length, Option, Some, None, option_map, All}
use Rattle.run_events.specs.declared.key.Class.TheVariants.{Async}
use Rattle.marks.specs.Places.{thread_count}
use Rattle.marks.specs.declared.range.Range.{Range}
use Rattle.marks.specs.Ranges.{Piece, piece_ranges}
use Rattle.marks.specs.Wants.{same_origin}
use Rattle.marks.specs.Marks.{Commit, NoRegion, Withheld, Released, released, Ret, Event, Made, Mark}
use Rattle.space_memory_bytes.specs.Areas.{AreaState, byte_at}
use Rattle.space_memory_bytes.specs.Numbers.{HasBytes}
use Rattle.space_memory_access.specs.Held.{HeldState, innermost, prepared_region}
use Rattle.space_memory_access.specs.declared.refusal.Refusal.{Refusal}
use Rattle.replay_runs.specs.Runs.{Start, OfKey, has, marks_of}
use Rattle.replay_runs.specs.Keys.{key}
use Rattle.replay_runs.specs.Interface.{Interface, Committing}
use Rattle.replay_runs.specs.Threads.{open_calls}
use Rattle.replay_runs.specs.Rules.{Closes}
use Rattle.replay_runs.specs.Checks.{Finding, Answered, Passes, Finds, return_checks}
use Rattle.replay_runs.specs.Returns.{ReleasesInUse}
use Rattle.space_memory.specs.Spaces.{SpaceState}
use Rattle.space_memory.specs.Releases.{committed_size, AllReturned, HasKey, IsReleaseRefused}
use Rattle.space_memory_laws.specs.Shown.{value_when_held}
use Rattle.space_memory_laws.specs.StandsFor.{StandsFor}
use Rattle.space_memory_laws.specs.Marks.{IsMark}
use Rattle.space_memory_laws.specs.Refusals.{finding_of}
use Rattle.space_memory_laws.specs.Changes.{IsReleased}

-- of the region of a NULL pointer nothing is used
abbrev pub used_at : Range → ℕ → ℕ
used_at r used = if r.addr == 0 then 0 else used

-- each piece has the bytes of memory, as many as are used
abbrev pub ShowUsed : List AreaState → List Piece → List ℕ → Type 0
ShowUsed bytes [] [] = Unit {0}
ShowUsed bytes (p ∷ ps) (n ∷ ns) = (length p.bytes ≡ used_at p.range n) ×
    HasBytes bytes p.range.addr p.bytes × ShowUsed bytes ps ns
ShowUsed bytes _ _ = ⊥

-- what `release` is told to commit is what the Ret commits: nothing, or the region of a key that it has
abbrev pub CommitsAs : Mark → HeldState → Option (ℕ × ℕ) → Commit → Type 0
CommitsAs m held None commit = released commit ≡ []
CommitsAs m held (Some c) NoRegion = ⊥
CommitsAs m held (Some c) Withheld = ⊥
CommitsAs m held (Some c) (Released k p) =
    (option_map (λ r. r.range) (prepared_region held.regions k) ≡ Some p.range) × (k ≡ c.0) ×
    (has m (OfKey (key Async k)) ≡ true)

-- a piece has no more bytes than its range
abbrev pub FitsIn : Piece → Type 0
FitsIn p = length p.bytes ≤ p.range.len

-- a Ret that the rules of runs allow
pub record IsRet (s : Start) (past : List Mark) (m : Mark) (pieces : List Piece) (committing :
    Option (ℕ × ℕ)) (commit : Commit) (new : SpaceState) : Type 0 where
  pub mark : IsMark s past m new
  pub fits : All FitsIn (pieces ++ released commit)
  pub in_use : ReleasesInUse s past commit

-- the mark is a Ret that closes a call of the function, over the ranges that the call holds, with the bytes that memory shows of
-- each, as many as are used
pub record ShowsRet (s : Start) (past : List Mark) (memory : SpaceState) (m : Mark) (func : ℕ)
    (args : List ℕ) (pieces : List Piece) (commit : Commit) (used : List ℕ)
    (committing : Option (ℕ × ℕ)) : Type 0 where
  pub event : Event
  pub act : m.act ≡ Made event
  pub result : ℕ
  pub same : Bool
  pub kind : event.kind ≡ Ret func args result same pieces commit
  pub closes : Closes (open_calls (marks_of s m.thread past)) func args (piece_ranges pieces)
  pub commits : CommitsAs m memory.held committing commit
  pub shows : ShowUsed memory.bytes (pieces ++ released commit) (used ++ committed_size committing)

-- a release is a Ret with the bytes of the regions
abbrev pub ReturnsAreMarks : Type 0
ReturnsAreMarks =
    (s : Start) (past : List Mark) (old new : SpaceState) (m : Mark) (func : ℕ) (args : List ℕ)
    (pieces : List Piece) (commit : Commit) (used : List ℕ) (committing : Option (ℕ × ℕ)) →
    StandsFor s past old →
    m.thread < thread_count →
    IsReleased old new m.thread used committing →
    ShowsRet s past old m func args pieces commit used committing →
    IsRet s past m pieces committing commit new

-- the byte isn't what it was when it was held
abbrev pub was_changed : SpaceState → ℕ → Bool
was_changed memory x = not (same_origin (byte_at memory.bytes x) (value_when_held memory.held.regions x))

-- what comes from below where code wrote all bytes itself
abbrev pub filled : SpaceState → Answered
filled memory = record { pieces = []; committed = 0; changed = was_changed memory }

-- the used sizes of a run are those of memory, and 0 at NULL
abbrev pub AreUsedSizes : List Range → List ℕ → List ℕ → Type 0
AreUsedSizes [] [] [] = Unit {0}
AreUsedSizes (r ∷ rs) (used ∷ more) (n ∷ ns) = (n ≡ used_at r used) × AreUsedSizes rs more ns
AreUsedSizes _ _ _ = ⊥

-- what the annotations commit is what `release` is told to: where the used size is negative, nothing
abbrev pub IsCommitted : Option Committing → Option (ℕ × ℕ) → Type 0
IsCommitted None committing = committing ≡ None
IsCommitted (Some c) committing = committing ≡ option_map (λ used. (c.key, used)) c.used

-- the checks of a Ret find what memory refuses, and nothing else
pub record ReturnsFind (i : Interface) (s : Start) (past : List Mark) (memory : SpaceState) (t func : ℕ)
    (args : List ℕ) (result : ℕ) (used : List ℕ) (committing : Option (ℕ × ℕ)) : Type 0 where
  pub refused : (r : Refusal) → IsReleaseRefused memory.bytes memory.held.regions (innermost memory.held t)
      used committing r → Finds (return_checks i s past (filled memory) func args result) (finding_of r)
  pub found : (f : Finding) → Finds (return_checks i s past (filled memory) func args result) f →
      (r : Refusal) × IsReleaseRefused memory.bytes memory.held.regions (innermost memory.held t) used
      committing r × (f ≡ finding_of r)
  pub passes : Passes (return_checks i s past (filled memory) func args result) ↔
      (HasKey memory.held.regions committing ×
      AllReturned memory.bytes memory.held.regions (innermost memory.held t) used committing)

-- a Ret of the innermost open call isn't made for a cause exactly where its release is refused for it
abbrev pub RefusedReturnsAreFindings : Type 0
RefusedReturnsAreFindings =
    (i : Interface) (s : Start) (past : List Mark) (memory : SpaceState) (t func : ℕ) (args : List ℕ)
    (result : ℕ) (used : List ℕ) (committing : Option (ℕ × ℕ)) →
    StandsFor s past memory →
    t < thread_count →
    Closes (open_calls (marks_of s t past)) func args (i.outs func args) →
    AreUsedSizes (i.outs func args) used (i.used func args result) →
    IsCommitted (i.commits func args result) committing →
    ReturnsFind i s past memory t func args result used committing
