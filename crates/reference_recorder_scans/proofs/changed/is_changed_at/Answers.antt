use Rattle.std.proofs.Common.{◌∙◌, ap}
use Rattle.marks.specs.Bytes.{Byte}
use Rattle.replay_runs.specs.Runs.{byte}
use Rattle.whole_runs.specs.World.{begin}
use Rattle.whole_runs.specs.Sides.{seen}
use Rattle.whole_runs.specs.Memory.{filled}
use Rattle.whole_runs.specs.Tests.{is_changed}
use Rattle.reference_recorder_marks.specs.Marks.{past}
use Rattle.reference_recorder_scans.proofs.changed.is_changed_at.Goals as goal

pub returns : goal.returns
returns c = λ w e.
    c.is_changed.ensures
    ∙ (ap (λ (b : Byte). is_changed b.cell c.filled-now.result) (c.byte.ensures w e)
    ∙ ap (λ v. is_changed (byte (begin w) c.args.addr (seen (past c.args.marks.now))).cell v) (c.filled-now.ensures ∙ ap (filled c.args.pieces.now c.args.addr) (c.real.ensures w e)))
