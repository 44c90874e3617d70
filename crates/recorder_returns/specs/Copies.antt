-- Copies of what comes up of memory with a Ret.
use Rattle.std.specs.Prelude.{◌≡◌, ℕ, false, true, List, [], ◌∷◌, ◌++◌, length, Option, Some, None, option_map}
use Rattle.marks.specs.declared.range.Range.{Range}
use Rattle.marks.specs.Ranges.{Piece, are_bytes, piece_bytes, piece_ranges}
use Rattle.marks.specs.Marks.{Commit, logged, released}
use Rattle.stub_meaning.specs.Meaning.{first_of}
use Rattle.space_memory_bytes.specs.Areas.{AreaState}
use Rattle.space_memory_bytes.specs.Numbers.{HasBytes}
use Rattle.space_memory_access.specs.Accesses.{IsAllowed}
use Rattle.space_memory_access.specs.Held.{prepared_region}
use Rattle.space_memory.specs.Spaces.{SpaceState}
use Rattle.space_memory.specs.Releases.{committed_size}
use Rattle.space_memory_laws.specs.Returns.{ShowUsed, used_at}
use Rattle.replay_runs.specs.Interface.{Committing}
use Rattle.whole_runs_memory.specs.Refusals.{access_below}
use Rattle.recorder_returns.specs.declared.copying.Brought.{Brought}
use Rattle.recorder_returns.specs.declared.returning.Returning.{Returning}
use Rattle.recorder_returns.specs.Bringing.{HaveBytes, IsCommitOf, committing_of}

-- ---- what may be copied

-- the used bytes of a region may be read below the cut
abbrev pub MayCopy : SpaceState → (thread : ℕ) → Range → (used : ℕ) → Type 0
MayCopy memory t r used = IsAllowed memory.bytes memory.held.regions
    (access_below t false (record { addr = r.addr; len = used_at r used }))

-- those of each region
abbrev pub MayBeCopied : SpaceState → (thread : ℕ) → List Range → List ℕ → Type 0
MayBeCopied memory t [] used = Unit {0}
MayBeCopied memory t (r ∷ rs) [] = Unit {0}
MayBeCopied memory t (r ∷ rs) (n ∷ ns) = MayCopy memory t r n × MayBeCopied memory t rs ns

-- of what is committed the key is in use, and the used bytes of its region may be read
abbrev pub MayBeCommittedUnder : SpaceState → (thread key : ℕ) → Option ℕ → Type 0
MayBeCommittedUnder memory t key None = Unit {0}
MayBeCommittedUnder memory t key (Some n) = (r : Range) ×
    (option_map (λ g. g.range) (prepared_region memory.held.regions key) ≡ Some r) × MayCopy memory t r n

abbrev pub MayBeCommitted : SpaceState → (thread : ℕ) → Option Committing → Type 0
MayBeCommitted memory t None = Unit {0}
MayBeCommitted memory t (Some c) = MayBeCommittedUnder memory t c.key c.used

-- ---- copies

-- the used bytes of a region
pub record IsCopy (bytes : List AreaState) (r : Range) (used : ℕ) (copy : List ℕ) : Type 0 where
  pub count : length copy ≡ used_at r used
  pub shown : HasBytes bytes r.addr copy
  pub are_so : are_bytes copy ≡ true

-- those of each of the regions
pub record AreCopies (bytes : List AreaState) (regions : List Range) (used : List ℕ)
    (copies : List (List ℕ)) : Type 0 where
  pub up : List Piece
  pub ranges : piece_ranges up ≡ regions
  pub pieces : piece_bytes up ≡ copies
  pub shows : ShowUsed bytes up used
  pub have : HaveBytes up

-- what is committed comes after them
pub record AddsCommit (memory : SpaceState) (committing : Option Committing) (old : List (List ℕ))
    (before : List Range) (new : List (List ℕ)) (after : List Range) : Type 0 where
  pub commit : Commit
  pub is : IsCommitOf memory.held.regions committing commit
  pub pieces : new ≡ old ++ logged commit
  pub ranges : after ≡ before ++ piece_ranges (released commit)
  pub shows : ShowUsed memory.bytes (released commit) (committed_size (committing_of committing))
  pub have : HaveBytes (released commit)

-- all that comes up with the Ret of which this is said
pub record IsBrought (memory : SpaceState) (said : Returning) (b : Brought) : Type 0 where
  pub up : List Piece
  pub commit : Commit
  pub regions : piece_ranges up ≡ said.ranges.items
  pub is : IsCommitOf memory.held.regions (first_of said.done.commits) commit
  pub pieces : b.pieces ≡ piece_bytes up ++ logged commit
  pub ranges : b.ranges.items ≡ piece_ranges (up ++ released commit)
  pub shows : ShowUsed memory.bytes (up ++ released commit)
      (said.done.used ++ committed_size (committing_of (first_of said.done.commits)))
  pub have : HaveBytes (up ++ released commit)
