use Rattle.std.proofs.Common.{◌≡◌, suc, drop, ap, ◌∙◌, arith}
use Rattle.std.specs.Prelude.{slice_get}
use Rattle.std.proofs.lemmas.Bool.{eq-eqb, ne_eqb}
use Rattle.system_side.specs.AnswerLists.{as_scripted}
use Rattle.reference_recorder_given.proofs.Giving.{found_answer, of_func, passed_one, passed_other}
use Rattle.reference_recorder_given.proofs.answers.answer_of.Goals.{else-answer-func, then-answer-func+else-left-eq0}
use Rattle.reference_recorder_given.proofs.answers.answer_of.Goals as goal

pub returns-then-left-eq0 : goal.returns-then-left-eq0
returns-then-left-eq0 c =
    let answers = c.args.file.now.answers in
    let answer = as_scripted c.get-answer.result in
    found_answer c.args.func answers c.loop-at.at c.args.place answer c.get-answer.ensures (eq-eqb c.get-answer.result.func c.args.func c.if-answer-func.true)
    (c.loop-at.invariant ∙ ap (slice_get (of_func c.args.func (drop c.loop-at.at answers))) c.if-left-eq0.true)

pub loop-at-preserved : goal.loop-at-preserved
loop-at-preserved c =
    let answers = c.args.file.now.answers in
    let answer = as_scripted c.get-answer.result in
    elim c.if-answer-func.branch [
      | then-answer-func+else-left-eq0 w ↦ (
          let one : c.loop-at.left ≡ suc c.if-answer-func.left = omega (arith, w.left-is, w.if-left-eq0.false) in
          passed_one c.args.func answers c.loop-at.at c.args.place answer c.get-answer.ensures c.if-answer-func.left (eq-eqb c.get-answer.result.func c.args.func w.if-answer-func.true)
          (c.loop-at.invariant ∙ ap (slice_get (of_func c.args.func (drop c.loop-at.at answers))) one))
      | else-answer-func w ↦ (
          let same : c.loop-at.left ≡ c.if-answer-func.left = omega (arith, w.left-is) in
          passed_other c.args.func answers c.loop-at.at c.args.place answer c.get-answer.ensures c.if-answer-func.left (ne_eqb c.get-answer.result.func c.args.func w.if-answer-func.false)
          (c.loop-at.invariant ∙ ap (slice_get (of_func c.args.func (drop c.loop-at.at answers))) same))
    ]
