-- What a Ret brings up of memory.
use Rattle.std.specs.Prelude.{◌≡◌, ℕ, true, List, [], ◌∷◌, ◌++◌, Option, Some, None, option_map}
use Rattle.marks.specs.Ranges.{Piece, are_bytes, piece_ranges}
use Rattle.marks.specs.Marks.{Commit, NoRegion, Withheld, Released, released}
use Rattle.space_memory_access.specs.declared.holder.Region.{Region}
use Rattle.space_memory_access.specs.Held.{prepared_region}
use Rattle.space_memory.specs.Spaces.{SpaceState}
use Rattle.space_memory.specs.Releases.{committed_size}
use Rattle.space_memory_laws.specs.Returns.{ShowUsed}
use Rattle.replay_runs.specs.Interface.{Committing}
use Rattle.whole_runs.specs.World.{World, interface}

-- what memory is told to commit: nothing where the used size is negative
abbrev pub committing_of : Option Committing → Option (ℕ × ℕ)
committing_of None = None
committing_of (Some c) = option_map (λ used. (c.key, used)) c.used

-- what is committed is the region that is prepared under the key
abbrev pub CommitsUnder : List Region → (key : ℕ) → Option ℕ → Commit → Type 0
CommitsUnder regions key None commit = commit ≡ Withheld
CommitsUnder regions key (Some n) commit = (p : Piece) × (commit ≡ Released key p) ×
    (option_map (λ r. r.range) (prepared_region regions key) ≡ Some p.range)

abbrev pub IsCommitOf : List Region → Option Committing → Commit → Type 0
IsCommitOf regions None commit = commit ≡ NoRegion
IsCommitOf regions (Some c) commit = CommitsUnder regions c.key c.used commit

-- each has bytes alone
abbrev pub HaveBytes : List Piece → Type 0
HaveBytes [] = Unit {0}
HaveBytes (p ∷ ps) = (are_bytes p.bytes ≡ true) × HaveBytes ps

-- these pieces and this commit come up with the Ret of a call: the used bytes of each region, as memory has them
pub record BringsUp (w : World) (memory : SpaceState) (func : ℕ) (args : List ℕ) (result : ℕ)
    (up : List Piece) (commit : Commit) : Type 0 where
  pub outs_are : piece_ranges up ≡ (interface w).outs func args
  pub commit_is : IsCommitOf memory.held.regions ((interface w).commits func args result) commit
  pub shows : ShowUsed memory.bytes (up ++ released commit) ((interface w).used func args result ++
      committed_size (committing_of ((interface w).commits func args result)))
  pub bytes : HaveBytes (up ++ released commit)
