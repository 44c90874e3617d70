-- What is told to a thread at a call.
use Rattle.std.specs.Prelude.{ℕ, Bool, if◌then◌else◌, ◌||◌, not}
use Rattle.marks.specs.declared.side.Side.{Side}
use Rattle.marks.specs.declared.side.Side.TheVariants.{System}
use Rattle.c_code.specs.Machine.{Laid, Config, entry}
use Rattle.c_code.specs.MarkLists.{has_entry}
use Rattle.c_machine.specs.Callers.{crosses_at}
use Rattle.c_machine.specs.Readers.{side_of}

-- below the cut where the call crosses it, else where its caller runs
abbrev pub side_told : Laid → Config → Side
side_told l c = if crosses_at l c then System else side_of c

-- the call of the function is told a value, and makes no marks: it crosses the cut, or the function has no
-- body
abbrev pub is_told : Laid → Config → ℕ → Bool
is_told l d f = crosses_at l d || not (has_entry (entry l f))
