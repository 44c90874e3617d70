use Rattle.std.proofs.Common.{◌≡◌, ◌++◌, ◌∷◌, [], ◌+◌, List, Some, get_or, take, sym, ap, ◌∙◌, subst, append_assoc}
use Rattle.std.specs.BTreeMap.{get}
use Rattle.std.proofs.lemmas.List.{take_more}
use Rattle.run_events.specs.declared.key.KeyMark.{KeyMark}
use Rattle.log_closure.specs.Tables.{Numbers, key_cmp, tie_key}
use Rattle.log_closure.specs.Ties.{key_tie}
use Rattle.log_closure.specs.KeyNumbers.{HaveNumbers, number_in}
use Rattle.log_closure.proofs.KeyNumbers.{numbers_kept, numbers_more}
use Rattle.log_closure.proofs.TableSteps.{no_mark}
use Rattle.log_closure.proofs.numbering.Numbering.add.Goals as goal

pub loop-mark-preserved : goal.loop-mark-preserved
loop-mark-preserved c =
    let ms = c.args.marks.now in
    let i = c.loop-mark.mark-index in
    let m = get_or ms i no_mark in
    let old = c.loop-mark.self.marks.items in
    let number : Numbers = get key_cmp c.count.new.self.numbers in
    let numbered : number (tie_key (key_tie m)) ≡ Some c.in_ok-number.number = ap number (sym c.key_of.ensures) ∙ c.in_ok-number.ensures.number in
    record {
      numbers = c.in_ok-number.ensures.numbers;
      marks = λ seen h.
          let kept = numbers_kept (number_in c.loop-mark.self) number (seen ++ take i ms) old c.in_ok-number.ensures.kept (c.loop-mark.invariant.marks seen h) in
          let more = numbers_more number (seen ++ take i ms) old m c.in_ok-number.number kept numbered in
          let seen_more : (seen ++ take i ms) ++ m ∷ [] ≡ seen ++ take (i + 1) ms = append_assoc seen (take i ms) (m ∷ []) ∙ ap (λ (l : List KeyMark). seen ++ l) (sym (take_more ms i no_mark c.loop-mark-test.true)) in
          subst (HaveNumbers number (seen ++ take (i + 1) ms)) (sym c.in_ok-push.ensures.items) (subst (λ (l : List KeyMark). HaveNumbers number l (old ++ c.in_ok-number.number ∷ [])) seen_more more);
    }
