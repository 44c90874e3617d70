use Rattle.std.proofs.Common.{◌≡◌, ◌↔◌, Bool, true, sym, ap, ◌∙◌, subst}
use Rattle.marks.specs.Bytes.{Byte, IsHeld}
use Rattle.replay_runs.specs.Runs.{byte}
use Rattle.whole_runs.specs.World.{begin}
use Rattle.whole_runs.specs.Sides.{seen}
use Rattle.reference_recorder_marks.specs.Marks.{past}
use Rattle.reference_recorder_scans.specs.Scans.{is_held}
use Rattle.reference_recorder_scans.proofs.Bytes.{held_is}
use Rattle.reference_recorder_scans.proofs.pending.is_held_at.Goals as goal

pub returns : goal.returns
returns c = λ w e.
    let b : Byte = byte (begin w) c.args.addr (seen (past c.args.marks.now)) in
    subst (λ (a : Bool). (a ≡ true) ↔ IsHeld b.cell) (sym (c.is_held.ensures ∙ ap (λ (x : Byte). is_held x.cell) (c.byte.ensures w e))) (held_is b.cell)
