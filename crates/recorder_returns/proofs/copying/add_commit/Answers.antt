use Rattle.std.proofs.Common.{◌≡◌, ℕ, ◌++◌, List, [], ◌∷◌, Option, Some, sym, ap, ◌∙◌, subst}
use Rattle.marks.specs.declared.range.Range.{Range}
use Rattle.replay_runs.specs.Interface.{Committing}
use Rattle.recorder_returns.specs.Copies.{AddsCommit}
use Rattle.recorder_returns.proofs.Copied.{committed_copy}
use Rattle.recorder_returns.proofs.copying.add_commit.Goals as goal

pub returns : goal.returns
returns c =
    let m = c.args.spaces.now in
    let ps = c.args.pieces.now in
    let rs = c.args.ranges.now.items in
    let key = c.committing.inside.key in
    let told : Committing = record { key = key; used = Some c.in-Some-used.used } in
    let as_told : (o : Option ℕ) → Committing = λ o. record { key = key; used = o } in
    let is : c.args.commit ≡ Some told = c.in-Some.is ∙ ap Some (sym c.committing.view_is ∙ ap as_told c.in-Some-used.is) in
    subst (λ (o : Option Committing). AddsCommit m o ps rs c.push-2.new.self c.push-3.new.self.items) (sym is)
    (subst (λ (xs : List (List ℕ)). AddsCommit m (Some told) ps rs xs c.push-3.new.self.items) (sym c.in_ok-push-2.ensures.ok)
    (subst (λ (ys : List Range). AddsCommit m (Some told) ps rs (ps ++ c.in_ok-piece.piece ∷ []) ys) (sym c.in_ok-push-3.ensures.ok)
    (committed_copy m ps rs key c.in-Some-used.used c.in-Some-prepared.region c.in_ok-piece.piece (sym c.prepared.ensures ∙ c.in-Some-prepared.is) c.in_ok-piece.ensures)))
