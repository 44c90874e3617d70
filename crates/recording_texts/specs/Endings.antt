-- How a recorded run ended, as the program says it.
use Rattle.std.specs.Prelude.{ℕ, ◌==◌, if◌then◌else◌, List, [], ◌++◌, false, codes, decimal, Option, Some, None}
use Rattle.std.specs.Fmt.{digits}
use Rattle.marks.specs.declared.breach.BreachKind.{BreachKind}
use Rattle.marks.specs.declared.breach.BreachKind.TheVariants as breaches
use Rattle.marks.specs.Kinds.{breach_word}
use Rattle.c_code.specs.declared.code.FuncInfo.{FuncInfo}
use Rattle.c_code.specs.Machine.{Flat, func_of}
use Rattle.call_inspector.specs.EventText.{fault_from, fault_text}
use Rattle.whole_runs.specs.declared.ending.Ending.{Ending}
use Rattle.whole_runs.specs.declared.ending.Ending.TheVariants as endings
use Rattle.whole_runs.specs.declared.ending.Halt.{Halt}
use Rattle.whole_runs.specs.declared.ending.Halt.TheVariants as halts
use Rattle.r2_cli_outcome.specs.declared.status.Status.{Status}
use Rattle.r2_cli_outcome.specs.declared.status.Status.TheVariants as status
use Rattle.r2_cli_outcome.specs.Outcome.{line_of}

-- the breach that has a number
abbrev pub breach_from : ℕ → Option BreachKind
breach_from n =
    if n == 1 then Some breaches.Race else
    if n == 2 then Some breaches.Pending else
    if n == 3 then Some breaches.OtherSpace else
    if n == 4 then Some breaches.Size else
    if n == 5 then Some breaches.Mode else
    if n == 6 then Some breaches.KeyInUse else
    if n == 7 then Some breaches.NoKey else None

abbrev pub breach_text : Option BreachKind → List ℕ
breach_text None = []
breach_text (Some kind) = breach_word kind

-- KIND thread T
abbrev pub fault_words : (kind thread : ℕ) → List ℕ
fault_words kind thread = fault_text (fault_from kind) ++ codes " thread " ++ decimal thread

-- the other thread of a race
abbrev pub other_words : Option ℕ → List ℕ
other_words None = []
other_words (Some thread) = codes " other " ++ decimal thread

-- KIND thread T addr 0xA, and where it is a race other U
abbrev pub breach_words : (kind thread addr : ℕ) → (other : Option ℕ) → List ℕ
breach_words kind thread addr other =
    breach_text (breach_from kind) ++ codes " thread " ++ decimal thread ++ codes " addr 0x" ++
    digits 16 false addr ++ other_words other

-- the name of a function that the code knows
abbrev pub name_of : Option FuncInfo → List ℕ
name_of None = []
name_of (Some info) = info.name

-- why the run was halted
abbrev pub halt_words : Flat → Halt → List ℕ
halt_words code halts.Budget = codes "budget"
halt_words code halts.Blocked = codes "blocked"
halt_words code (halts.Script func) = codes "script " ++ name_of (func_of code func)
halt_words code (halts.System kind thread) = codes "system " ++ fault_words kind thread
halt_words code halts.Events = codes "events"
halt_words code halts.Full = codes "full"

-- the line that says how it ended; none where all threads ended
abbrev pub ending_line : Flat → Ending → List ℕ
ending_line code endings.Done = []
ending_line code (endings.Fault kind thread) = line_of (codes "fault " ++ fault_words kind thread)
ending_line code (endings.Breach kind thread addr other) =
    line_of (codes "breach " ++ breach_words kind thread addr other)
ending_line code (endings.Halted why) = line_of (codes "halted " ++ halt_words code why)

-- the status that says it
abbrev pub status_of : Ending → Status
status_of endings.Done = status.Done
status_of (endings.Fault kind thread) = status.Fault
status_of (endings.Breach kind thread addr other) = status.Breach
status_of (endings.Halted why) = status.Halted
