-- The lines of threads and their events.
use Rattle.std.specs.Prelude.{ℕ, suc, ◌==◌, if◌then◌else◌, List, [], ◌∷◌, ◌++◌, length, codes, decimal}
use Rattle.run_events.specs.declared.event.Record.{Record}
use Rattle.c_code.specs.Machine.{Flat}
use Rattle.call_inspector.specs.Open.{opened}
use Rattle.call_inspector.specs.EventText.{open_event_text}

-- INDEX CLOCK STEPS TEXT, of an event where calls and callbacks of these functions are open
abbrev pub event_line : Flat → List ℕ → ℕ → Record → List ℕ
event_line code active index r =
    decimal index ++ codes " " ++ decimal r.clock ++ codes " " ++ decimal r.steps ++ codes " " ++
    open_event_text code active r.event ++ codes "\n"

-- the lines of events that come after the earlier ones of their thread
abbrev pub lines_after : Flat → List Record → List Record → List ℕ
lines_after code earlier [] = []
lines_after code earlier (r ∷ rs) = event_line code (opened earlier) (length earlier) r ++
    lines_after code (earlier ++ r ∷ []) rs

-- a thread that has an event: its number, and a line for each event
abbrev pub thread_text : Flat → ℕ → List Record → List ℕ
thread_text code thread rs =
    if length rs == 0 then [] else codes "thread " ++ decimal thread ++ codes "\n" ++ lines_after code [] rs

-- the threads from a number on
abbrev pub threads_from : Flat → ℕ → List (List Record) → List ℕ
threads_from code thread [] = []
threads_from code thread (rs ∷ more) = thread_text code thread rs ++ threads_from code (suc thread) more
