use Rattle.std.proofs.Common.{sym, ap, ◌∙◌, subst}
use Rattle.recorder_book.specs.Sizes.{IsInFull, full_size}
use Rattle.recorder_book.proofs.Forms.{sized}
use Rattle.reference_recorder_marks.specs.Marks.{mark_of}
use Rattle.reference_recorder_records.proofs.records.size_of.Goals as goal

pub record_size-requires : goal.record_size-requires
record_size-requires c = subst IsInFull (sym c.in_ok-entry.ensures) c.requires

pub returns-clause-size : goal.returns-clause-size
returns-clause-size c = c.record_size.ensures.size ∙ ap full_size c.in_ok-entry.ensures ∙ sized (mark_of c.args.mark.now)
