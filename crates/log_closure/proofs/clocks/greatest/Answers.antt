use Rattle.std.proofs.Common.{◌≡◌, ◌+◌, ℕ, None, Some, get_or, drop, map, ap, sym, ◌∙◌, arith}
use Rattle.log_closure.specs.declared.tie.Tie.{Tie}
use Rattle.log_closure.specs.Ties.{earlier, key_tie, needs}
use Rattle.log_closure.specs.FirstWrong.{both, greatest}
use Rattle.log_closure.specs.Tables.{clock_in, tie_key}
use Rattle.log_closure.proofs.KeyNumbers.{number_at}
use Rattle.log_closure.proofs.TableSteps.{no_mark, greatest_lost_at, greatest_at_zero, greatest_at_more}
use Rattle.log_closure.proofs.clocks.greatest.Goals as goal
use Rattle.log_closure.proofs.clocks.greatest.Goals.{then-mark-gt0+in_ok-clock, else-mark-gt0}

pub returns-in_err-clock : goal.returns-in_err-clock
returns-in_err-clock c = λ number have.
    let at = clock_in number c.args.table.now in
    let ms = c.args.marks.now in
    let i = c.loop-at.at in
    let m = get_or ms i no_mark in
    let lt = c.loop-at-test.true in
    let is : c.tie_before.result ≡ earlier (key_tie m) = c.tie_before.ensures in
    let numbered : number (tie_key c.tie_before.result) ≡ Some (get_or c.args.numbers.now i 0) = ap (λ (q : Tie). number (tie_key q)) is ∙ number_at number ms c.args.numbers.now i no_mark 0 have lt in
    let none : at (earlier (key_tie m)) ≡ None = ap at (sym is) ∙ sym (c.in_err-clock.ensures number numbered) in
    c.from_residual.ensures ∙ sym (greatest_lost_at at ms i no_mark c.args.least c.loop-at.most lt c.if-mark-gt0.true none (c.loop-at.invariant number have))

pub loop-at-preserved : goal.loop-at-preserved
loop-at-preserved c = λ number have.
    let at = clock_in number c.args.table.now in
    let ms = c.args.marks.now in
    let i = c.loop-at.at in
    let m = get_or ms i no_mark in
    let lt = c.loop-at-test.true in
    let rest = greatest at (needs (map key_tie (drop (i + 1) ms))) in
    elim c.if-mark-gt0.branch [
      | then-mark-gt0+in_ok-clock w ↦
          let is : w.tie_before.result ≡ earlier (key_tie m) = w.tie_before.ensures in
          let numbered = ap (λ (q : Tie). number (tie_key q)) is ∙ number_at number ms c.args.numbers.now i no_mark 0 have lt in
          greatest_at_more at ms i no_mark _ c.loop-at.most w.in_ok-clock.clock lt (w.if-mark-gt0.true) (ap at (sym is) ∙ sym (w.in_ok-clock.ensures number numbered)) (c.loop-at.invariant number have)
          ∙ ap (λ (n : ℕ). both (Some n) rest) (sym (w.most-is ∙ w.max-most.ensures))
      | else-mark-gt0 w ↦
          greatest_at_zero at ms i no_mark _ c.loop-at.most lt (omega (arith, w.if-mark-gt0.false)) (c.loop-at.invariant number have)
          ∙ ap (λ (n : ℕ). both (Some n) rest) (sym w.most-is)
    ]
