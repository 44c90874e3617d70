use Rattle.std.proofs.Common.{◌≡◌, ◌≢◌, ◌↔◌, Bool, true, sym, ap, ◌∙◌, subst}
use Rattle.marks.specs.Bytes.{Byte, Dead}
use Rattle.replay_runs.specs.Runs.{byte}
use Rattle.whole_runs.specs.World.{begin}
use Rattle.whole_runs.specs.Sides.{seen}
use Rattle.reference_recorder_marks.specs.Marks.{past}
use Rattle.reference_recorder_rights.specs.Rights.{is_alive}
use Rattle.reference_recorder_rights.proofs.Touching.{alive_is}
use Rattle.reference_recorder_rights.proofs.rights.is_there.Goals as goal

pub returns : goal.returns
returns c = λ w e.
    let b : Byte = byte (begin w) c.args.addr (seen (past c.args.marks.now)) in
    subst (λ (a : Bool). (a ≡ true) ↔ (b.cell ≢ Dead)) (sym (c.is_alive.ensures ∙ ap (λ (x : Byte). is_alive x.cell) (c.byte.ensures w e))) (alive_is b.cell)
