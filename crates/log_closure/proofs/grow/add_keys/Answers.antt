use Rattle.std.proofs.Common.{List, true, cond, get_or, map, take, sym, ap, ◌∙◌}
use Rattle.std.specs.Prelude.{◌||◌}
use Rattle.std.specs.BTreeMap.{is_at}
use Rattle.std.specs.BTreeSet.{contains}
use Rattle.log_closure.specs.declared.tie.Tie.{Tie}
use Rattle.log_closure.specs.Ties.{key_tie, listed}
use Rattle.log_closure.specs.Tables.{tie_cmp}
use Rattle.log_closure.proofs.TableSteps.{no_mark, keys_taken}
use Rattle.log_closure.proofs.GrowSteps.{added_more}
use Rattle.log_closure.proofs.grow.add_keys.Goals as goal

pub loop-mark-preserved : goal.loop-mark-preserved
loop-mark-preserved c = λ q.
    let ts = map key_tie (take c.loop-mark.mark-index c.args.marks.now) in
    let k = key_tie (get_or c.args.marks.now c.loop-mark.mark-index no_mark) in
    let old = contains tie_cmp c.args.done.now q in
    let mid = contains tie_cmp c.loop-mark.done q in
    added_more _ mid old ts k q (c.loop-mark.invariant q) (c.in_ok-insert.ensures.updates.0 q ∙ ap (λ (x : Tie). cond (is_at (tie_cmp x) q) true mid) c.tie_of.ensures)
    ∙ ap (λ (l : List Tie). old || listed l q) (sym (keys_taken c.args.marks.now c.loop-mark.mark-index no_mark c.loop-mark-test.true))
