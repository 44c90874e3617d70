-- Code that ends what isn't there: no code of a source does so.
use Rattle.std.specs.Prelude.{ℕ, zero, suc, List, [], ◌∷◌, false}
use Rattle.marks.specs.Marks.{Up, Alloc, Enter, Leave}
use Rattle.marks.specs.Wants.{Outside, Enters, Leaves, Allocs, Frees}
use Rattle.replay_runs.specs.Interface.{Program}
use Rattle.replay_runs_examples.specs.Programs.{Code, always, program, whole, Doing, Steps, Makes, zeros, main}

-- a frame that was never entered
abbrev pub leaving_code : ℕ → Code
leaving_code t = always (Leaves 0x20000000 16) ∷ []

abbrev pub leaving : Program
leaving = program whole leaving_code

-- a block whose bytes the end of a frame has taken away
abbrev pub taking_code : ℕ → Code
taking_code (suc t) = []
taking_code zero = always Outside ∷ always (Enters false main [] (zeros 16)) ∷ always (Allocs 16) ∷
    always (Leaves 0x30000000 16) ∷ always (Frees 0x30000000) ∷ []

abbrev pub taking : Program
taking = program whole taking_code

abbrev pub taken : List Doing
taken = Makes 0 (Up main []) ∷ Steps 0 (Enter main [] 0x20000000 (zeros 16)) ∷
    Makes 0 (Alloc 0x30000000 16) ∷ Steps 0 (Leave 0x30000000 16) ∷ []
