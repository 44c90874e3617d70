use Rattle.std.proofs.Common.{sym, ap, ◌∙◌}
use Rattle.reference_recorder_marks.specs.declared.mark.Act.{Act}
use Rattle.reference_recorder_marks.specs.Marks.{past, act_of}
use Rattle.reference_recorder_rights.specs.Rights.{act_under}
use Rattle.reference_recorder_rights.proofs.HandedDown.{region_in}
use Rattle.reference_recorder_rights.proofs.prepared.act_under.Goals as goal

pub returns-in-Made : goal.returns-in-Made
returns-in-Made c = λ w.
    c.kind_under.ensures w ∙ ap (λ (a : Act). act_under (region_in w (past c.args.marks.now)) c.args.addr (act_of a)) (sym c.in-Made.is)
