use Rattle.std.proofs.Common.{sym, subst}
use Rattle.marks.specs.declared.side.Side.{Side}
use Rattle.marks.specs.Ranges.{IsFirstIn}
use Rattle.space_memory_access.specs.Accesses.{IsForeignTo}
use Rattle.space_memory_access.proofs.access.first_foreign.Goals as goal

pub returns-in-Replay : goal.returns-in-Replay
returns-in-Replay c =
    subst (λ (side : Side). IsFirstIn c.args.access.range (IsForeignTo side c.args.bytes.now c.args.held.now.regions c.args.access) c.first_common.result) (sym c.in-Replay.is) c.first_common.ensures
