-- A Ret that is recorded.
use Rattle.std.specs.Prelude.{◌≡◌, ℕ, ◌<◌, ◌^◌, Bool, ◌&&◌, List, ◌∷◌, ◌++◌}
use Rattle.run_events.specs.declared.event.Event.{Event as Logged}
use Rattle.run_events.specs.declared.event.Event.TheVariants as logs
use Rattle.marks.specs.declared.range.Range.{Range}
use Rattle.marks.specs.Bytes.{Byte}
use Rattle.marks.specs.Ranges.{Piece, piece_bytes, piece_ranges}
use Rattle.marks.specs.Marks.{Commit, Mark, logged, released}
use Rattle.marks.specs.Wants.{Answer}
use Rattle.log_codec.specs.LogText.{IsBody}
use Rattle.replay_runs.specs.Interface.{Interface}
use Rattle.replay_runs.specs.Threads.{last_return, same_return}
use Rattle.steps_above_interface.specs.State.{KeptState}
use Rattle.steps_above_interface.specs.Stands.{IsReturnOf, IsStateOf}
use Rattle.whole_runs.specs.World.{World, begin, interface}
use Rattle.whole_runs.specs.Sides.{events_by}
use Rattle.recorder_book.specs.Book.{BookState, IsBookOf}
use Rattle.recorder_book.specs.Sizes.{in_full}
use Rattle.recorder_threads.specs.Threads.{args_at}
use Rattle.recorder_state.specs.declared.state.RunState.{RunState}
use Rattle.recorder_events.specs.Making.{own_above}
use Rattle.recorder_returns.specs.declared.returning.Returning.{Returning}
use Rattle.recorder_returns.specs.Bringing.{BringsUp}
use Rattle.recorder_returns.specs.Coming.{IsReturning}
use Rattle.recorder_returns.specs.Saying.{IsSaid}

-- a run comes to a Ret of which this is said, which has this record, and gives back these regions
pub record IsRetNext (w : World) (s : RunState) (t f v : ℕ) (x : Answer) (said : Returning)
    (ranges : List Range) (event : Logged) : Type 0 where
  pub next : IsReturning w s t f v x
  pub is_said : IsSaid w f (args_at s.threads t) v said
  pub up : List Piece
  pub commit : Commit
  pub brings : BringsUp w s.memory.above.spaces f (args_at s.threads t) v up commit
  pub same : Bool
  pub repeats : same ≡ ((interface w).is_cached f && same_return
      (last_return ((begin w).returned next.step.thread f) f (own_above w next.step.thread next.past))
      (record { result = v; bytes = piece_bytes up ++ logged commit }))
  pub ranges_are : piece_ranges (up ++ released commit) ≡ ranges
  pub event_is : logs.Ret same v (piece_bytes up ++ logged commit) ≡ event
  pub body : IsBody (in_full event)

-- ---- its index

-- whatever run the book is of, the thread's next event has this index
abbrev pub IsIndexNext : BookState → (thread index : ℕ) → Type 0
IsIndexNext b t n = (w : World) (past : List Mark) → IsBookOf w past b → n ≡ events_by w t past

-- it is of some run, in which the thread has not too many
abbrev pub IsSmallRun : BookState → (thread : ℕ) → Type 0
IsSmallRun b t = (w : World) × (past : List Mark) × IsBookOf w past b × (events_by w t past < 2 ^ 32)

-- ---- what is kept of functions

-- whatever run the old state is of, the new one is of it with each such Ret of the function, which has `cache` or not
abbrev pub CountsIfCached : (cached : Bool) → (thread func index : ℕ) → KeptState → KeptState → Type 0
CountsIfCached cached t f n old new = (i : Interface) (memory : ℕ → Byte) (past : List Mark) (m : Mark) →
    cached ≡ i.is_cached f → IsReturnOf t f n m → IsStateOf i memory past old →
    IsStateOf i memory (m ∷ past) new
