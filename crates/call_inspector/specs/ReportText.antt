-- The text of a report.
use Rattle.std.specs.Prelude.{List, ℕ, ◌++◌, codes}
use Rattle.c_code.specs.Machine.{Flat}
use Rattle.call_inspector_run.specs.declared.run.Run.{Run}
use Rattle.call_inspector.specs.ThreadText.{threads_from}
use Rattle.call_inspector.specs.MemoryText.{memory_text}
use Rattle.call_inspector.specs.Ending.{ending_of, ending_text}

-- the events by thread, the memory, the ending
abbrev pub report_text : Run → Flat → List ℕ
report_text run code =
    threads_from code 0 run.threads
    ++ codes "memory\n" ++ memory_text run.memory
    ++ codes "end " ++ ending_text (ending_of run.threads) ++ codes "\n"
