-- The bytes that a run gives a thread are of replay memory, and no constants.
use Rattle.std.specs.Prelude.{◌≡◌, ℕ, ◌<◌, true, false, List, [], ◌++◌}
use Rattle.marks.specs.Places.{thread_count, replay_pool, is_constant, is_system}
use Rattle.marks.specs.Ranges.{Piece, within, any_piece, piece_ranges}
use Rattle.marks.specs.Marks.{Commit, Leave, Mark, released}
use Rattle.marks.specs.Bytes.{granted}
use Rattle.replay_runs.specs.Runs.{Start, Run, marks_of}
use Rattle.replay_runs.specs.Interface.{Program}
use Rattle.replay_runs.specs.Threads.{HasRoom, frame_place, frames, open_calls}
use Rattle.replay_runs.specs.Pool.{IsPlace, blocks}
use Rattle.replay_runs.specs.Rules.{Closes, replay_rules}
use Rattle.replay_runs.specs.Blocks.{size_at}
use Rattle.replay_runs.specs.Returns.{ReleasesInUse}
use Rattle.replay_runs.specs.Unseen.{Holder, IsWhole, LeavesFirst, holds}

abbrev pub IsOwn : ℕ → Type 0
IsOwn x = (is_system x ≡ false) × (is_constant x ≡ false)

-- what is held is so, where it was at the start
abbrev pub HeldBytesAreOwn : Program → Start → Type 0
HeldBytesAreOwn program s =
    ((x : ℕ) (h : Holder) → holds s [] x h ≡ true → IsOwn x) →
    (run : List Mark) → Run (replay_rules program s) s run → (x : ℕ) (h : Holder) →
    holds s run x h ≡ true → IsOwn x

-- a frame for which there is room, the innermost frame, a new block and one that is freed are so
pub record ObjectsAreOwn (s : Start) (past : List Mark) : Type 0 where
  pub enters : (t size : ℕ) → t < thread_count → HasRoom t (marks_of s t past) size → (x : ℕ) →
      within (frame_place t (marks_of s t past)) size x ≡ true → IsOwn x
  pub leaves : (t at size : ℕ) → t < thread_count →
      LeavesFirst (Leave at size) (frames (marks_of s t past)) → (x : ℕ) → within at size x ≡ true → IsOwn x
  pub allocs : (at size : ℕ) → IsPlace replay_pool (blocks s past) size at → (x : ℕ) →
      within at (granted at size) x ≡ true → IsOwn x
  pub frees : (at size : ℕ) → size_at at (blocks s past) ≡ size → (x : ℕ) → within at size x ≡ true →
      IsOwn x

abbrev pub ObjectsOfWholePasts : Start → Type 0
ObjectsOfWholePasts s = (past : List Mark) → IsWhole s past → ObjectsAreOwn s past

-- a Ret gives back what is held: the ranges of the call that it closes, and the region in use
abbrev pub RetsGiveWhatIsHeld : Start → Type 0
RetsGiveWhatIsHeld s =
    (past : List Mark) (t func : ℕ) (args : List ℕ) (outs : List Piece) (commit : Commit) →
    Closes (open_calls (marks_of s t past)) func args (piece_ranges outs) → ReleasesInUse s past commit →
    (x : ℕ) → any_piece (outs ++ released commit) x ≡ true → (h : Holder) × (holds s past x h ≡ true)
