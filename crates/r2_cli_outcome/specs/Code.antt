-- The exit statuses.
use Rattle.std.specs.Prelude.{ℕ}
use Rattle.r2_cli_outcome.specs.declared.status.Status.{Status}
use Rattle.r2_cli_outcome.specs.declared.status.Status.TheVariants.{Done, Findings, Usage, Source, System, Fault, Breach, Halted, Short, BadLog, ReadFault, WriteFault, Limit, NoMemory}

abbrev pub code_of : Status → ℕ
code_of Done = 0
code_of Findings = 1
code_of Usage = 2
code_of Source = 3
code_of System = 4
code_of Fault = 5
code_of Breach = 6
code_of Halted = 7
code_of Short = 8
code_of BadLog = 9
code_of ReadFault = 11
code_of WriteFault = 12
code_of Limit = 13
code_of NoMemory = 14
