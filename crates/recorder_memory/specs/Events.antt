-- Events: a recorder makes them, with their steps, tickets and clocks, of what memory says of them.
use Rattle.std.specs.Prelude.{◌≡◌, ℕ, ◌==◌, List, ◌∷◌, map}
use Rattle.run_events.specs.declared.key.Key.{Key}
use Rattle.marks.specs.declared.side.Side.{Side}
use Rattle.marks.specs.declared.side.Side.TheVariants.{Replay}
use Rattle.marks.specs.Places.{replay_pool}
use Rattle.marks.specs.Marks.{EventKind, Event, Made, Free, Mark}
use Rattle.marks.specs.Bytes.{EventAsks}
use Rattle.marks.specs.Wants.{Want, Frees}
use Rattle.replay_runs.specs.Runs.{byte}
use Rattle.replay_runs.specs.Checks.{Passes}
use Rattle.replay_runs.specs.Pool.{IsPlace, blocks}
use Rattle.whole_runs.specs.World.{World, begin}
use Rattle.whole_runs.specs.Sides.{seen}
use Rattle.whole_runs.specs.Tests.{tests}
use Rattle.whole_runs.specs.Steps.{Picked, IsMade}
use Rattle.whole_runs.specs.Ends.{Follows}
use Rattle.whole_runs.specs.Fits.{IsFit}
use Rattle.recorder_memory.specs.declared.memory.Memory.{Memory}
use Rattle.recorder_memory.specs.Stands.{StandsForRun}
use Rattle.recorder_memory.specs.Steps.{ComesTo}

-- the next mark of a run of a fit world is this event of the thread, with these keys
pub record IsNextEvent (w : World) (past : List Mark) (t : ℕ) (keys : List Key) (kind : EventKind)
    (m : Mark) : Type 0 where
  pub fit : IsFit w
  pub follows : Follows w past
  pub step : Picked w past
  pub made : IsMade w past step m
  pub thread : m.thread ≡ t
  pub event : Event
  pub act_is : m.act ≡ Made event
  pub kind_is : event.kind ≡ kind
  pub keys_are : map (λ q. q.key) event.keys ≡ keys

-- whatever run makes it, memory stands for the run with it
abbrev pub Makes : Memory → (thread : ℕ) → List Key → EventKind → Memory → Type 0
Makes old t keys kind new = (w : World) (past : List Mark) (m : Mark) → StandsForRun w past old →
    IsNextEvent w past t keys kind m → StandsForRun w (m ∷ past) new

-- whatever run comes to a step, its tests pass
abbrev pub Takes : Memory → (thread : ℕ) → Side → Want → Type 0
Takes memory t side want = (w : World) (past : List Mark) → ComesTo w past memory t side want →
    Passes (tests w past t side want)

-- whatever run memory stands for, a new block of the size has this place in the pool above the cut
abbrev pub HasPlace : Memory → (size addr : ℕ) → Type 0
HasPlace memory size addr = (w : World) (past : List Mark) → StandsForRun w past memory →
    IsPlace replay_pool (blocks (begin w) (seen past)) size addr

-- what memory says of a Free, besides that its tests pass: the block is live and has this size, and none
-- where the address is 0
pub record IsBlock (w : World) (past : List Mark) (addr size : ℕ) : Type 0 where
  pub asks : (x : ℕ) → EventAsks (Free addr size) x (byte (begin w) x (seen past))
  pub null : (addr == 0) ≡ (size == 0)

abbrev pub HasBlock : Memory → (thread addr size : ℕ) → Type 0
HasBlock memory t addr size = (w : World) (past : List Mark) →
    ComesTo w past memory t Replay (Frees addr) → IsBlock w past addr size
