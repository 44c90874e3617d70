-- The numbers and words of faults and breaches.
use Rattle.std.specs.Prelude.{ℕ, List, codes}
use Rattle.marks.specs.declared.fault.FaultKind.{FaultKind}
use Rattle.marks.specs.declared.fault.FaultKind.TheVariants.{Divide, Shift, NotLive, ReadOnly, StackFull, BadCall}
use Rattle.marks.specs.declared.breach.BreachKind.{BreachKind}
use Rattle.marks.specs.declared.breach.BreachKind.TheVariants.{Race, Pending, OtherSpace, Size, Mode, KeyInUse, NoKey}

-- logs have 0 where a thread was halted without a fault
abbrev pub fault_number : FaultKind → ℕ
fault_number Divide = 1
fault_number Shift = 2
fault_number NotLive = 3
fault_number ReadOnly = 4
fault_number StackFull = 5
fault_number BadCall = 6

abbrev pub fault_word : FaultKind → List ℕ
fault_word Divide = codes "divide"
fault_word Shift = codes "shift"
fault_word NotLive = codes "notlive"
fault_word ReadOnly = codes "readonly"
fault_word StackFull = codes "stackfull"
fault_word BadCall = codes "badcall"

abbrev pub breach_number : BreachKind → ℕ
breach_number Race = 1
breach_number Pending = 2
breach_number OtherSpace = 3
breach_number Size = 4
breach_number Mode = 5
breach_number KeyInUse = 6
breach_number NoKey = 7

abbrev pub breach_word : BreachKind → List ℕ
breach_word Race = codes "race"
breach_word Pending = codes "pending"
breach_word OtherSpace = codes "otherspace"
breach_word Size = codes "size"
breach_word Mode = codes "mode"
breach_word KeyInUse = codes "keyinuse"
breach_word NoKey = codes "nokey"
