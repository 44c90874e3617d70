use Rattle.std.proofs.Common.{◌++◌, sym, ap, ◌∙◌}
use Rattle.std.proofs.lemmas.List.{append-nil}
use Rattle.log_codec.specs.LogText.{head_text, version_1}
use Rattle.reference_recorder_log.proofs.Written.{whole}
use Rattle.reference_recorder_log.proofs.log.log_of.Goals as goal

pub put_chunks-requires : goal.put_chunks-requires
put_chunks-requires c = record {
  chunk = c.requires.chunk;
  form = c.requires.form;
  begins = λ w e. c.in_ok-put_head.ensures.ok ∙ ap (λ xs. xs ++ head_text version_1) c.new-log.ensures.items ∙ sym (append-nil (head_text version_1));
}

pub returns : goal.returns
returns c = whole c.args.chunk c.events-total.result c.args.marks.now c.put_chunks.new.log.items c.put_rests.new.log.items c.put_end.new.to.items c.requires.chunk c.requires.form c.events-total.ensures c.in_ok-put_chunks.ensures c.in_ok-put_rests.ensures c.in_ok-put_end.ensures.ok
