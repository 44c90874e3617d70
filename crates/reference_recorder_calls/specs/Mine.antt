-- What holds of a thread's own marks above the cut.
use Rattle.std.specs.Prelude.{◌≡◌, ℕ, List, Option, None}
use Rattle.marks.specs.declared.fault.FaultKind.{FaultKind}
use Rattle.marks.specs.Marks.{Mark}
use Rattle.marks.specs.Bytes.{Byte}
use Rattle.replay_runs.specs.Runs.{marks_of}
use Rattle.replay_runs.specs.Laws.{fresh}
use Rattle.replay_runs.specs.Threads.{OpenCall, Returned, fault_of, last_return, open_calls, open_ups}
use Rattle.whole_runs.specs.Sides.{seen}

-- the thread's own marks above the cut, from a start at which nothing was done
abbrev pub mine : (memory : ℕ → Byte) → (thread : ℕ) → List Mark → List Mark
mine memory t past = marks_of (fresh memory) t (seen past)

abbrev pub AreOpenCalls : List Mark → (thread : ℕ) → List OpenCall → Type 0
AreOpenCalls past t calls = (memory : ℕ → Byte) → calls ≡ open_calls (mine memory t past)

abbrev pub AreOpenUps : List Mark → (thread : ℕ) → List ℕ → Type 0
AreOpenUps past t ups = (memory : ℕ → Byte) → ups ≡ open_ups (mine memory t past)

abbrev pub IsLastReturn : List Mark → (thread func : ℕ) → Option Returned → Type 0
IsLastReturn past t f last = (memory : ℕ → Byte) → last ≡ last_return None f (mine memory t past)

abbrev pub IsFaultOf : List Mark → (thread : ℕ) → Option FaultKind → Type 0
IsFaultOf past t fault = (memory : ℕ → Byte) → fault ≡ fault_of (mine memory t past)
