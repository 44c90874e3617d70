use Rattle.std.proofs.Common.{sym, ◌∙◌}
use Rattle.reference_recorder_marks.specs.Marks.{mark_of, past}
use Rattle.reference_recorder_log.proofs.Written.{put_plain}
use Rattle.reference_recorder_log.proofs.log.put_new.Goals as goal

pub returns : goal.returns
returns c = put_plain c.args.chunk (past c.args.marks.now) (mark_of c.args.last.now) c.args.log.now.items (sym c.is_event.ensures ∙ c.if-is_event.false)
