use Rattle.std.proofs.Common.{[], ℕ, ◌≤◌, length, take, List, Option, IfSome, IfNone, reverse, ap, subst, sym, ◌∙◌}
use Rattle.std.proofs.lemmas.List.{take_all}
use Rattle.c_parser_moves.specs.declared.action.Action.{Action}
use Rattle.c_parser_actions.specs.Pieces.{acted}
use Rattle.c_parser_depth.specs.declared.chain.Chain.{Chain}
use Rattle.c_parser_depth.specs.declared.effect.Effect.{Effect}
use Rattle.c_parser_depth.specs.Chains.{deep_end}
use Rattle.c_parser_depth.specs.Deep.{OfBuilt, IsShallow, IsDeepAt}
use Rattle.c_parser_depth.specs.Effects.{affected}
use Rattle.c_parser_depth.specs.Seen.{seen}
use Rattle.c_parser_depth.proofs.Measures.{Measures}
use Rattle.c_parser_depth.proofs.Follows.{follow_next}
use Rattle.c_parser_depth.proofs.Answer.{tells_shallow, tells_deep}
use Rattle.c_parser_depth.proofs.deep.too_deep.Goals as goal

measured_all : (v : List Action) (i : ℕ) (cs : List Chain) → length v ≤ i → Measures (acted (reverse (take i v)) []) cs → Measures (acted (reverse v) []) cs
measured_all v i cs le h = rw (take_all i v le) at h

pub loop-action-preserved : goal.loop-action-preserved
loop-action-preserved c =
    follow_next c.args.actions.now c.loop-action.action-index c.action-item.result (seen c.loop-action.chains) (seen c.apply.new.self) c.loop-action-test.true c.action-item.is c.loop-action.invariant
    (c.in_ok-apply.ensures ∙ ap (λ (x : Effect). affected x (seen c.loop-action.chains)) c.effect_of.ensures)

pub returns-clause-shallow : goal.returns-clause-shallow
returns-clause-shallow c =
    let P : Option ℕ → Type 0 = λ r. IfNone r (OfBuilt c.args.actions.now IsShallow) in
    subst P (sym (c.deep_end.ensures ∙ ap (λ (x : Chain). deep_end x) c.pop.ensures.top))
    (tells_shallow c.args.actions.now (seen c.loop-action.chains) (measured_all c.args.actions.now c.loop-action.action-index (seen c.loop-action.chains) c.loop-action-test.false c.loop-action.invariant))

pub returns-clause-deep : goal.returns-clause-deep
returns-clause-deep c =
    let P : Option ℕ → Type 0 = λ r. IfSome r (λ o. OfBuilt c.args.actions.now (λ ds. IsDeepAt ds o)) in
    subst P (sym (c.deep_end.ensures ∙ ap (λ (x : Chain). deep_end x) c.pop.ensures.top))
    (tells_deep c.args.actions.now (seen c.loop-action.chains) (measured_all c.args.actions.now c.loop-action.action-index (seen c.loop-action.chains) c.loop-action-test.false c.loop-action.invariant))
