use Rattle.std.proofs.Common.{◌≡◌, ◌∙◌, List, [], ◌∷◌, length, reverse, Result, Ok, Err, IfErr, IsErrAnd, sym, ap, rules, arith}
use Rattle.std.specs.Vec.Iter.{into_iter_items}
use Rattle.c_parser_moves.specs.declared.action.Action.{Action}
use Rattle.c_parser_actions.specs.Pieces.{act, acted}
use Rattle.c_syntax.specs.Nodes.{Nodes}
use Rattle.c_parser_tree.specs.declared.builder.BuildError.{BuildError}
use Rattle.c_parser_tree.specs.Unfit.{IsUnfit}
use Rattle.c_parser_tree.proofs.Run.{acted_next, holds_nothing, nothing_left, unfit_on, built_end, unfit_end}
use Rattle.c_parser_tree.proofs.building.build.Goals as goal

pub loop-action-init : goal.loop-action-init
loop-action-init c =
    (([], holds_nothing _ c.in_ok-builder.ensures.stack, ap (λ (v : List Action). acted (reverse v) []) c.into_iter-action-iterator.ensures.into_iter_gives.0), search rules)

pub loop-action-preserved : goal.loop-action-preserved
loop-action-preserved c =
    let at = c.loop-action in
    let a = c.in-Some.action in
    let steps : into_iter_items at.action-iterator ≡ a ∷ into_iter_items c.next.new.self = c.in-Some.ensures.steps.0 in (
      (act a at.invariant.0.0, c.in_ok-step.ensures at.invariant.0.0 at.invariant.0.1, sym (acted_next (into_iter_items c.next.new.self) a at.invariant.0.0) ∙ (rw steps at at.invariant.0.2)),
      let was = at.invariant.1 in
          let gone = c.in-Some.ensures.steps.1 in
          let short = ap length steps in
          omega arith,
    )

passed : (r : Result Nodes BuildError) (e : BuildError) (v : List Action) → IsErrAnd r (λ x. x ≡ e) → IsUnfit v e → IfErr r (λ x. IsUnfit v x)
passed (Ok _) e v h k = tt
passed (Err x) e v h k = rw h k

pub returns-in_err-step-clause-unfit : goal.returns-in_err-step-clause-unfit
returns-in_err-step-clause-unfit c =
    let at = c.loop-action in
    let a = c.in-Some.action in
    let P = at.invariant.0.0 in
    let steps : into_iter_items at.action-iterator ≡ a ∷ into_iter_items c.next.new.self = c.in-Some.ensures.steps.0 in
    let e = c.in_err-step.field-0.0 in
    passed c.from_residual-in_err-step.result e c.args.actions.items c.from_residual-in_err-step.ensures.1 (unfit_on e c.step.new.self a (into_iter_items c.next.new.self) c.args.actions.items P (c.in_err-step.ensures P at.invariant.0.1) (rw steps at at.invariant.0.2))

pub returns : goal.returns
returns c =
    let at = c.loop-action in
    let empty : into_iter_items at.action-iterator ≡ [] = nothing_left _ (sym at.invariant.1 ∙ c.in-None.ensures.steps.0) in
    let all = rw empty at at.invariant.0.2 in
    record { built = built_end c.finish.result at.builder c.args.actions.items at.invariant.0.0 c.finish.ensures at.invariant.0.1 all; unfit = unfit_end c.finish.result at.builder c.args.actions.items at.invariant.0.0 c.finish.ensures at.invariant.0.1 all }
