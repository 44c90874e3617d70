use Rattle.std.proofs.Common.{◌≡◌, ◌<◌, ◌++◌, ◌∷◌, [], Some, None, true, Bool, cond, get_or, map, take, sym, ◌∙◌, ap, subst, List}
use Rattle.log_closure.specs.declared.tie.Tie.{Tie}
use Rattle.log_closure.specs.Ties.{same, key_tie, listed}
use Rattle.log_closure.specs.FirstWrong.{or_else, repeats}
use Rattle.log_closure.specs.Tables.{Numbers, clock_in, tie_key}
use Rattle.log_closure.specs.KeyNumbers.{HaveNumbers}
use Rattle.log_closure.proofs.KeyNumbers.{number_at}
use Rattle.log_closure.proofs.Numbers.{above}
use Rattle.log_closure.proofs.TableSteps.{no_mark, keys_taken, own_more, there_is, repeats_step}
use Rattle.log_closure.proofs.clocks.add.Goals as goal
use Rattle.log_closure.proofs.clocks.add.Goals.{then-branch, else-branch}

pub loop-at-preserved : goal.loop-at-preserved
loop-at-preserved c =
    let ms = c.args.marks.now in
    let ns = c.args.numbers.now in
    let i = c.loop-at.at in
    let k = key_tie (get_or ms i no_mark) in
    let t = c.tie_of.result in
    let ts = map key_tie (take i ms) in
    let lt = c.loop-at-test.true in
    let more = keys_taken ms i no_mark lt in
    let is : t ≡ k = c.tie_of.ensures in
    let numbered : (number : Numbers) → HaveNumbers number ms ns → number (tie_key t) ≡ Some (get_or ns i 0) =
    λ number have. ap (λ (q : Tie). number (tie_key q)) is ∙ number_at number ms ns i no_mark 0 have lt in
    record {
      clocks = λ number apart have q.
          let old = clock_in number c.args.table.now q in
          let mid = clock_in number c.loop-at.table q in
          own_more _ mid old ts k q c.args.clock (c.loop-at.invariant.clocks number apart have q)
          (c.in_ok-put.ensures.clock number apart (numbered number have) q ∙ ap (λ (x : Tie). cond (same x q) (or_else mid (Some c.args.clock)) mid) is)
          ∙ ap (λ (l : List Tie). or_else old (cond (listed l q) (Some c.args.clock) None)) (sym more);
      repeats = λ number apart have before h.
          let was = c.loop-at.invariant.repeats number apart have before h in
          let there = c.in_ok-put.ensures.there number (numbered number have)
          ∙ there_is (clock_in number c.loop-at.table t) (clock_in number c.args.table.now t) before ts t c.args.clock (c.loop-at.invariant.clocks number apart have t) (h t (subst (λ (x : Tie). 0 < x.class) (sym is) (above (get_or ms i no_mark).key.class))) in
          let goes : c.if-branch.repeats ≡ cond c.in_ok-put.field-0 true c.loop-at.repeats =
          elim c.if-branch.branch [
            | then-branch w ↦ w.repeats-is ∙ ap (λ (b : Bool). cond b true c.loop-at.repeats) (sym w.if-branch.true)
            | else-branch w ↦ w.repeats-is ∙ ap (λ (b : Bool). cond b true c.loop-at.repeats) (sym w.if-branch.false)
          ] in
          repeats_step c.if-branch.repeats c.loop-at.repeats c.in_ok-put.field-0 before ts t was there goes ∙ ap (λ (x : Tie). repeats before (ts ++ x ∷ [])) is ∙ ap (repeats before) (sym more);
    }
