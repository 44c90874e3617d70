-- What one mark makes of frames, blocks, regions and registered functions.
use Rattle.std.specs.Prelude.{ℕ, Bool, ◌&&◌, ◌||◌, if◌then◌else◌, ◌==◌, List, Option}
use Rattle.run_events.specs.declared.key.Class.TheVariants.{Async, Callback, Pool}
use Rattle.run_events.specs.declared.key.Key.{Key}
use Rattle.causal_order.specs.Order.{is_listed}
use Rattle.marks.specs.declared.side.Side.{Side}
use Rattle.marks.specs.declared.side.Side.TheVariants.{Replay}
use Rattle.marks.specs.declared.range.Range.{Range}
use Rattle.marks.specs.Marks.{Mark}
use Rattle.marks.specs.Opens.{frames_after}
use Rattle.c_code.specs.MarkLists.{same_side}
use Rattle.replay_runs.specs.Runs.{keys_of}
use Rattle.replay_runs.specs.Keys.{key}
use Rattle.replay_runs.specs.Pool.{act_blocks, act_use, is_call}

-- it stands above the cut, and is an event with the key
abbrev pub has_above : Mark → Key → Bool
has_above m k = same_side m.side Replay && is_listed (keys_of m.act) k

abbrev pub blocks_step : Mark → List Range → List Range
blocks_step m bs = if has_above m (key Pool 0) then act_blocks m.act bs else bs

abbrev pub use_step : (k : ℕ) → Mark → Option Range → Option Range
use_step k m r = if has_above m (key Async k) then act_use k m.act r else r

abbrev pub registered_step : (func : ℕ) → Mark → Bool → Bool
registered_step f m b = if has_above m (key Callback f) then is_call m.act || b else b

-- it is one of the thread's own on the side
abbrev pub is_own : Side → (thread : ℕ) → Mark → Bool
is_own side t m = (m.thread == t) && same_side m.side side

abbrev pub frames_step : Side → (thread : ℕ) → Mark → List Range → List Range
frames_step side t m fs = if is_own side t m then frames_after m.act fs else fs
