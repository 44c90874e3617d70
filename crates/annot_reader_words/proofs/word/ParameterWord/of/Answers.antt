use Rattle.std.proofs.Common.{◌≡◌, codes, sym, ap, arith}
use Rattle.std.proofs.lemmas.Slice.Eq.{text_from_reads}
use Rattle.annot_reader_words.specs.Words.{parameter_word}
use Rattle.annot_reader_words.proofs.word.ParameterWord.of.Goals as goal

pub returns-in-prepare : goal.returns-in-prepare
returns-in-prepare c =
    let name = c.args.name.now in
    let text : name ≡ codes "prepare" = text_from_reads name (codes "prepare") (omega arith) (omega arith, (omega arith, (omega arith, (omega arith, (omega arith, (omega arith, (omega arith, tt))))))) in
    sym (ap parameter_word text)

pub returns-in-callback : goal.returns-in-callback
returns-in-callback c =
    let name = c.args.name.now in
    let text : name ≡ codes "callback" = text_from_reads name (codes "callback") (omega arith) (omega arith, (omega arith, (omega arith, (omega arith, (omega arith, (omega arith, (omega arith, (omega arith, tt)))))))) in
    sym (ap parameter_word text)
