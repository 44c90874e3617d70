use Rattle.std.proofs.Common.{◌∙◌}
use Rattle.reference_recorder_end.proofs.Recording.{few_marks, recordable, recording}
use Rattle.reference_recorder_end.proofs.told.recorded.Goals as goal

pub log_of-requires-clause-few : goal.log_of-requires-clause-few
log_of-requires-clause-few c = few_marks c.requires.0 c.args.chunk c.args.marks.now c.args.memory c.args.ending c.requires.1

pub log_of-requires-clause-form : goal.log_of-requires-clause-form
log_of-requires-clause-form c = recordable c.requires.0 c.args.chunk c.args.marks.now c.args.memory c.args.ending c.requires.1

pub returns : goal.returns
returns c = λ w h.
    recording w c.args.chunk c.args.marks.now c.args.memory c.args.ending h c.from-2.result c.in_ok-threads.threads c.from.result c.from-3.result
    (λ v e. c.from-2.ensures ∙ c.in_ok-log.ensures v e) c.in_ok-threads.ensures (λ v. c.from.ensures ∙ c.in_ok-output.ensures v) (c.from-3.ensures ∙ c.in_ok-below.ensures)
