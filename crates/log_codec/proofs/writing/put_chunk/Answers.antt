use Rattle.std.proofs.Common.{◌≡◌, ◌<◌, ◌^◌, ◌++◌, ℕ, List, ap, subst, ◌∙◌}
use Rattle.std.specs.Int.{to_be_bytes}
use Rattle.std.proofs.lemmas.List.{length-map}
use Rattle.log_codec.specs.LogText.{chunk_text}
use Rattle.log_codec.specs.Putting.{log_record}
use Rattle.log_codec.specs.Tails.{TailState}
use Rattle.log_codec.proofs.PutTexts.{chunk_as_put, each_as_put}
use Rattle.log_codec.proofs.writing.put_chunk.Goals as goal

pub put_whole_chunk-requires : goal.put_whole_chunk-requires
put_whole_chunk-requires c = record {
  few = subst (λ n. n < 2 ^ 16) (length-map c.args.records.now log_record) c.requires.few;
  each = each_as_put c.args.records.now c.requires.each;
}

pub returns-clause-ok : goal.returns-clause-ok
returns-clause-ok c =
    let text : List ℕ = chunk_text to_be_bytes (record { thread = c.args.thread; records = c.args.records.now }) in
    let before : c.put_whole_chunk.new.out.before ≡ c.args.to.now.items = c.put_whole_chunk.ensures.before ∙ ap (λ (t : TailState). t.before) c.of-tail.ensures in
    let added : c.put_whole_chunk.new.out.added ≡ text = c.in_default.ensures.added ∙ ap (λ (t : TailState). t.added ++ text) c.of-tail.ensures in
    rw (chunk_as_put to_be_bytes c.args.thread c.args.records.now)
    (c.keep.ensures ∙ ap (λ (w : List ℕ). w ++ c.put_whole_chunk.new.out.added) before ∙ ap (λ (w : List ℕ). c.args.to.now.items ++ w) added)
