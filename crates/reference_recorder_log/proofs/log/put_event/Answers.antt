use Rattle.std.proofs.Common.{sym, ◌∙◌, subst}
use Rattle.std.specs.List.{AllByRecursion}
use Rattle.recorder_book.specs.Chunks.{IsRecordOf}
use Rattle.reference_recorder_marks.specs.Marks.{mark_of, past}
use Rattle.reference_recorder_log.proofs.Written.{own_records, put_event, some_records}
use Rattle.reference_recorder_log.proofs.log.put_event.Goals as goal

pub put_filled-requires : goal.put_filled-requires
put_filled-requires c =
    let own = c.deref.ensures.value ∙ c.in_ok-records.ensures in
    record {
      chunk = c.requires.chunk;
      some = some_records (past c.args.marks.now) (mark_of c.args.last.now) c.deref.result.now c.requires.made c.requires.last own;
      records = subst (AllByRecursion (IsRecordOf c.args.last.now.thread)) (sym own) (own_records c.args.last.now.thread c.args.marks.now c.requires.form);
    }

pub returns : goal.returns
returns c = put_event c.args.chunk (past c.args.marks.now) (mark_of c.args.last.now) c.args.log.now.items c.put_filled.new.log.items c.deref.result.now c.requires.made (c.deref.ensures.value ∙ c.in_ok-records.ensures) c.in_ok-put_filled.ensures
