use Rattle.std.proofs.Common.{◌≡◌, false, get_or, sym, ap, ◌∙◌, arith}
use Rattle.std.specs.BTreeSet.{contains}
use Rattle.log_closure.specs.Ties.{earlier, key_tie}
use Rattle.log_closure.specs.Tables.{tie_cmp}
use Rattle.log_closure.proofs.TableSteps.{no_mark}
use Rattle.log_closure.proofs.GrowSteps.{all_lost, all_at_zero, all_at_more}
use Rattle.log_closure.proofs.grow.holds_keys.Goals as goal
use Rattle.log_closure.proofs.grow.holds_keys.Goals.{then-mark-gt0+else-not-contains, else-mark-gt0}

pub returns-then-not-contains : goal.returns-then-not-contains
returns-then-not-contains c =
    let no : contains tie_cmp c.args.done.now (earlier (key_tie (get_or c.args.marks.now c.loop-mark.mark-index no_mark))) ≡ false = ap (contains tie_cmp c.args.done.now) (sym c.tie_before.ensures) ∙ sym c.if-not-contains.ensures in
    all_lost (contains tie_cmp c.args.done.now) c.args.marks.now c.loop-mark.mark-index no_mark c.loop-mark-test.true c.if-mark-gt0.true no c.loop-mark.invariant

pub loop-mark-preserved : goal.loop-mark-preserved
loop-mark-preserved c =
    let at = contains tie_cmp c.args.done.now in
    let ms = c.args.marks.now in
    let i = c.loop-mark.mark-index in
    elim c.if-mark-gt0.branch [
      | then-mark-gt0+else-not-contains w ↦ c.loop-mark.invariant ∙ all_at_more at ms i no_mark c.loop-mark-test.true w.if-mark-gt0.true (ap at (sym w.tie_before.ensures) ∙ sym w.if-not-contains.ensures)
      | else-mark-gt0 w ↦ c.loop-mark.invariant ∙ all_at_zero at ms i no_mark c.loop-mark-test.true (omega (arith, w.if-mark-gt0.false))
    ]
