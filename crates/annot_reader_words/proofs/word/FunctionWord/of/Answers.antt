use Rattle.std.proofs.Common.{◌≡◌, codes, sym, ap, arith}
use Rattle.std.proofs.lemmas.Slice.Eq.{text_from_reads}
use Rattle.annot_reader_words.specs.Words.{function_word}
use Rattle.annot_reader_words.proofs.word.FunctionWord.of.Goals as goal

pub returns-in-commit : goal.returns-in-commit
returns-in-commit c =
    let name = c.args.name.now in
    let text : name ≡ codes "commit" = text_from_reads name (codes "commit") (omega arith) (omega arith, (omega arith, (omega arith, (omega arith, (omega arith, (omega arith, tt)))))) in
    sym (ap function_word text)
