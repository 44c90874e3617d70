-- Code that calls an external which isn't of the interface, through a pointer; and code that writes a
-- constant which
-- another thread has read.
use Rattle.std.specs.Prelude.{ℕ, zero, suc, List, [], ◌∷◌, ◌++◌, Some, None, true, false}
use Rattle.marks.specs.declared.fault.FaultKind.TheVariants.{ReadOnly}
use Rattle.marks.specs.declared.range.Range.{Range}
use Rattle.marks.specs.Ranges.{Piece, range}
use Rattle.marks.specs.Marks.{Writing, Up, Stop, Load, Enter, Step, Fault}
use Rattle.marks.specs.Wants.{Outside, Loads, Stores, Enters, Calls, Below}
use Rattle.marks.specs.Wants as wants
use Rattle.replay_runs.specs.Interface.{Program}
use Rattle.replay_runs_examples.specs.Programs.{Code, always, program, whole, Doing, Steps, Makes, calls, returns, zeros, main}

-- `int ext(void); int (*get(void))(void);`, of which `get` alone is of the interface
abbrev pub get : ℕ
get = 22

abbrev pub ext : ℕ
ext = 23

abbrev pub to_ext : ℕ
to_ext = 0x1170

-- `int main(void) { return get()(); }`
abbrev pub calling_code : ℕ → Code
calling_code (suc t) = []
calling_code zero =
    always Outside
    ∷ always (Enters false main [] (zeros 16))
    ∷ always (Calls false get [])
    ∷ always (Below get [])
    ∷ always (wants.Steps true ext [])
    ∷ []

abbrev pub calling : Program
calling = program whole calling_code

abbrev pub got : List Doing
got =
    Makes 0 (Up main [])
    ∷ Steps 0 (Enter main [] 0x20000000 (zeros 16))
    ∷ calls 0 get []
    ∷ returns 0 get [] to_ext
    ∷ []

abbrev pub halted : Doing
halted = Makes 0 (Stop None)

abbrev pub ran : ℕ → List Piece → List Piece → List Range → Doing
ran result ins pieces freed = Steps 0 (Step ext [] result ins pieces freed)

-- thread 1 reads the constant that thread 0 is about to write
abbrev pub writing_code : ℕ → Code
writing_code zero = always Outside ∷ always (Enters false main [] (zeros 16)) ∷
    always (Stores None 0x100000 (1 ∷ [])) ∷ always (Stores None 0x100000 (1 ∷ [])) ∷ []
writing_code (suc t) = always Outside ∷ always (Enters false main [] (zeros 16)) ∷
    always (Loads None 0x100000 1) ∷ []

abbrev pub writing : Program
writing = program whole writing_code

abbrev pub was_read : List Doing
was_read =
    Makes 1 (Up main [])
    ∷ Steps 1 (Enter main [] 0x20010000 (zeros 16))
    ∷ Steps 1 (Load None 0x100000 (0 ∷ []))
    ∷ Makes 0 (Up main [])
    ∷ Steps 0 (Enter main [] 0x20000000 (zeros 16))
    ∷ []

abbrev pub was_refused : List Doing
was_refused = was_read ++ Steps 0 (Fault ReadOnly false [] [] (Writing (range 0x100000 1))) ∷
    Makes 0 (Stop (Some ReadOnly)) ∷ []
