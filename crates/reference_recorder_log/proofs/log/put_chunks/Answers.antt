use Rattle.std.proofs.Common.{◌+◌, List, take, ap, ◌∙◌, subst, sym}
use Rattle.std.proofs.lemmas.List.{take_all}
use Rattle.marks.specs.Marks as shown
use Rattle.reference_recorder_marks.specs.declared.mark.Mark.{Mark}
use Rattle.reference_recorder_marks.specs.Marks.{past}
use Rattle.reference_recorder_marks.proofs.Past.{past_more}
use Rattle.reference_recorder_records.specs.Recordable.{AreRecordable, IsRecordable}
use Rattle.reference_recorder_records.proofs.Counted.{all_take}
use Rattle.reference_recorder_log.specs.Logs.{HasChunks}
use Rattle.reference_recorder_log.proofs.log.put_chunks.Goals as goal

pub put_new-requires : goal.put_new-requires
put_new-requires c = record {
  chunk = c.requires.chunk;
  last = (past (take c.loop-at.at c.args.marks.now), ap past c.prefix-now.ensures ∙ past_more c.args.marks.now c.loop-at.at c.index-marks-at.result c.loop-at-test.true c.index-marks-at.is);
  form = subst AreRecordable (sym c.prefix-now.ensures) (all_take IsRecordable (c.loop-at.at + 1) c.args.marks.now c.requires.form);
}

pub loop-at-preserved : goal.loop-at-preserved
loop-at-preserved c =
    let next = past_more c.args.marks.now c.loop-at.at c.index-marks-at.result c.loop-at-test.true c.index-marks-at.is in
    subst (λ (p : List shown.Mark). HasChunks c.args.chunk p c.put_new.new.log.items) (sym next) (c.in_ok-put_new.ensures (past (take c.loop-at.at c.args.marks.now)) (ap past c.prefix-now.ensures ∙ next) c.loop-at.invariant)

pub returns : goal.returns
returns c = subst (λ (ms : List Mark). HasChunks c.args.chunk (past ms) c.loop-at.log.items) (take_all c.loop-at.at c.args.marks.now c.loop-at-test.false) c.loop-at.invariant
