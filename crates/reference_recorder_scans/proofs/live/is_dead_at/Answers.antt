use Rattle.std.proofs.Common.{◌≡◌, ◌↔◌, Bool, true, sym, ap, ◌∙◌, subst}
use Rattle.marks.specs.Bytes.{Byte, Dead}
use Rattle.replay_runs.specs.Runs.{byte}
use Rattle.whole_runs.specs.World.{begin}
use Rattle.whole_runs.specs.Sides.{seen}
use Rattle.reference_recorder_marks.specs.Marks.{past}
use Rattle.reference_recorder_scans.specs.Scans.{is_dead}
use Rattle.reference_recorder_scans.proofs.Bytes.{dead_is}
use Rattle.reference_recorder_scans.proofs.live.is_dead_at.Goals as goal

pub returns : goal.returns
returns c = λ w e.
    let b : Byte = byte (begin w) c.args.addr (seen (past c.args.marks.now)) in
    subst (λ (a : Bool). (a ≡ true) ↔ (b.cell ≡ Dead)) (sym (c.is_dead.ensures ∙ ap (λ (x : Byte). is_dead x.cell) (c.byte.ensures w e))) (dead_is b.cell)
