use Rattle.std.proofs.Common.{is_some, sym, ap, ◌∙◌}
use Rattle.whole_runs.specs.Memory.{real}
use Rattle.reference_recorder_marks.specs.Marks.{past}
use Rattle.reference_recorder_scans.proofs.Bytes.{lost_is}
use Rattle.reference_recorder_scans.proofs.live.is_lost_at.Goals as goal

pub returns : goal.returns
returns c = λ w e. lost_is (real w (past c.args.marks.now) c.args.addr) c.is_none.result (sym (ap is_some (c.real.ensures w e)) ∙ c.is_none.ensures)
