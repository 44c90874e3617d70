use Rattle.std.proofs.Common.{◌≤◌, length, sym, ap, ◌∙◌, arith}
use Rattle.std.proofs.Math.ListN.{drop_of_length-le}
use Rattle.std.proofs.lemmas.Result.{IfOk-weaker}
use Rattle.stub_operations.proofs.Growing.{finished, nothing}
use Rattle.stub_texts.specs.Texts.{names_in, texts_from}
use Rattle.stub_texts.proofs.Texts.{same, some_text, none_text, step}
use Rattle.stub_texts.proofs.set.text.Goals as goal
use Rattle.stub_texts.proofs.set.text.Goals.{in-Some, in-None}

pub loop-number-preserved : goal.loop-number-preserved
loop-number-preserved c = λ q h.
    let word = c.args.word.now in
    let names = names_in c.args.code.now in
    let all = c.added-all.result.now in
    let i = c.loop-number.number in
    let found = c.index-all-number.result in
    c.loop-number.invariant q (step word names all i found c.loop-number-test.true (sym c.index-all-number.is)
    (elim c.match-added.branch [
      | in-Some w ↦ some_text word names i w.in-Some.is w.as_slice.ensures w.text-is w.put_stub.ensures
      | in-None w ↦ none_text word names i w.in-None.is w.text-is
    ]) h)

pub returns : goal.returns
returns c =
    let word = c.args.word.now in
    let names = names_in c.args.code.now in
    let all = c.added-all.result.now in
    let i = c.loop-number.number in
    let past : length all ≤ i = omega arith in
    let last = same (sym (ap (texts_from word names i) (drop_of_length-le all past))) (nothing c.loop-number.text) in
    IfOk-weaker c.finish.result _ _ (λ v e.
    finished v.items c.new-text.ensures (c.loop-number.invariant c.loop-number.text last) e ∙
    ap (texts_from word names 0) c.added-all.ensures.added) c.finish.ensures
