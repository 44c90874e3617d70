-- What each event of a list of marks tells of the events of one thread.
use Rattle.std.specs.Prelude.{◌≡◌, ℕ, ◌<◌, true, List, length, get_or, take}
use Rattle.marks.specs.declared.side.Side.TheVariants.{Replay}
use Rattle.marks.specs.Marks.{is_event}
use Rattle.c_code.specs.MarkLists.{same_side}
use Rattle.replay_runs.specs.Known.{known, learned}
use Rattle.whole_runs.specs.Sides.{seen}
use Rattle.reference_recorder_marks.specs.declared.mark.Mark.{Mark}
use Rattle.reference_recorder_marks.specs.Marks.{act_of, mark_of, past}

-- at the place of each event so many of the thread's events happen before it, or are it; the numbers of
-- other marks say nothing
pub record AreTold (thread : ℕ) (ms : List Mark) (told : List ℕ) : Type 0 where
  pub count : length told ≡ length ms
  pub each : (i : ℕ) (m : Mark) → i < length ms → m ≡ get_or ms i m → same_side m.side Replay ≡ true →
      is_event (act_of m.act) ≡ true →
      get_or told i 0 ≡ learned (known (seen (past (take i ms)))) (mark_of m) thread
