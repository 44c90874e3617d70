use Rattle.std.proofs.Common.{sym, ap, ◌∙◌}
use Rattle.reference_recorder_marks.specs.declared.mark.EventKind.{EventKind}
use Rattle.reference_recorder_marks.specs.Marks.{past, kind_of}
use Rattle.reference_recorder_rights.specs.Rights.{any_under, kind_under}
use Rattle.reference_recorder_rights.proofs.HandedDown.{region_in}
use Rattle.reference_recorder_rights.proofs.prepared.kind_under.Goals as goal

pub returns-in-Call : goal.returns-in-Call
returns-in-Call c = λ w.
    c.any_under.ensures w ∙ ap (any_under (region_in w (past c.args.marks.now)) c.args.addr) c.as_slice.ensures
    ∙ ap (λ (k : EventKind). kind_under (region_in w (past c.args.marks.now)) c.args.addr (kind_of k)) (sym c.in-Call.is)
