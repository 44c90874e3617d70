use Rattle.std.proofs.Common.{◌++◌, sym, ap, ◌∙◌, subst}
use Rattle.std.specs.List.{AllByRecursion}
use Rattle.recorder_book.specs.Chunks.{IsRecordOf, chunks_text, rest}
use Rattle.reference_recorder_log.proofs.Written.{own_records}
use Rattle.reference_recorder_log.proofs.log.put_thread.Goals as goal

pub put_rest-requires : goal.put_rest-requires
put_rest-requires c = record {
  chunk = c.requires.chunk;
  records = subst (AllByRecursion (IsRecordOf c.args.thread)) (sym (c.deref.ensures.value ∙ c.in_ok-records.ensures)) (own_records c.args.thread c.args.marks.now c.requires.form);
}

pub returns : goal.returns
returns c = c.in_ok-put_rest.ensures ∙ ap (λ rs. c.args.log.now.items ++ chunks_text (rest c.args.chunk c.args.thread rs)) (c.deref.ensures.value ∙ c.in_ok-records.ensures)
