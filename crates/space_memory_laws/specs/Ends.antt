-- What code above the cut ends is there.
use Rattle.std.specs.Prelude.{◌≡◌, ℕ, ◌<◌, List, Some}
use Rattle.marks.specs.Places.{thread_count}
use Rattle.marks.specs.Marks.{Mark}
use Rattle.marks.specs.Wants.{Want, Leaves}
use Rattle.replay_runs.specs.Runs.{Start}
use Rattle.replay_runs.specs.Found.{EndsWhatIsThere}
use Rattle.space_memory.specs.Sides.{top_of}
use Rattle.space_memory.specs.Spaces.{SpaceState}
use Rattle.space_memory_laws.specs.StandsFor.{StandsFor}

-- the block that is freed, and the frame that is left where it is the thread's innermost
abbrev pub WhatIsEndedIsThere : Type 0
WhatIsEndedIsThere =
    (s : Start) (past : List Mark) (memory : SpaceState) (t : ℕ) (want : Want) →
    StandsFor s past memory →
    t < thread_count →
    ((at size : ℕ) → want ≡ Leaves at size → top_of memory.sides.replay t ≡
    Some (record { addr = at; len = size })) →
    EndsWhatIsThere s past want
