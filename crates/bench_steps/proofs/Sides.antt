-- There is room for a function on whatever side it runs.
use Rattle.std.proofs.Common.{◌≡◌, ℕ, ◌<◌, false, true, sym, subst}
use Rattle.marks.specs.declared.side.Side.{Side}
use Rattle.marks.specs.declared.side.Side.TheVariants.{Replay, System}
use Rattle.c_code.specs.Machine.{Laid, Config, entry}
use Rattle.c_code.specs.MarkLists.{has_entry}
use Rattle.c_machine.specs.Callers.{IsAtCall, MayRun, side_at}
use Rattle.c_machine.specs.Moves.{MayBegin, open_on}
use Rattle.c_machine.specs.Readers.{args_of}

pub either : (s : Side) (c : Config) (d : ℕ) → open_on Replay c < d → open_on System c < d → open_on s c < d
either Replay c d r s = r
either System c d r s = s

-- the function of a call that has a body may run
pub may_run : (l : Laid) (c : Config) (f : ℕ) → IsAtCall l c f → has_entry (entry l f) ≡ true → MayRun l c
may_run l c f at body = (at.is, subst (λ g. MayBegin l c g (args_of c) (side_at l c) false) (sym at.func) (at.runs body))
