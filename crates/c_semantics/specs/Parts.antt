-- What of a thread's marks stands above the cut.
use Rattle.std.specs.Prelude.{◌≡◌, ◌≢◌, List, ◌∷◌, ◌++◌}
use Rattle.marks.specs.declared.side.Side.TheVariants.{Replay}
use Rattle.marks.specs.Marks.{Mark}
use Rattle.c_code.specs.MarkLists.{Wrong, replay_part}
use Rattle.c_semantics.specs.Reading.{Marks}
use Rattle.c_semantics.specs.Laws.{IsOneWant}

-- the part above the cut of a list that is right by p is right by q
abbrev pub ReplayPartIsRight : Marks → Marks → Type 0
ReplayPartIsRight p q = (ms : List Mark) → p ms ≢ Wrong → q (replay_part ms) ≢ Wrong

-- what is wanted above the cut is a function of the marks above it so far, whatever was made below: marks
-- that may follow lists
-- with one part above the cut answer one want
abbrev pub WantAboveIsOne : Marks → Marks → Type 0
WantAboveIsOne p q =
    (ms ns : List Mark) (m n : Mark) (more less : List Mark) → replay_part ms ≡ replay_part ns →
    m.side ≡ Replay → n.side ≡ Replay →
    p (ms ++ m ∷ more) ≢ Wrong → q (ns ++ n ∷ less) ≢ Wrong → IsOneWant m n
