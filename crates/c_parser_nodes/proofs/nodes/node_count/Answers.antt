use Rattle.std.proofs.Common.{ap, subst, sym, ◌∙◌}
use Rattle.c_parser_nodes.specs.Counts.{IsCount}
use Rattle.c_parser_nodes.specs.declared.effect.Effect.{Effect}
use Rattle.c_parser_nodes.specs.declared.tally.Tally.{Tally}
use Rattle.c_parser_nodes.specs.Effects.{affected}
use Rattle.c_parser_nodes.proofs.Follows.{counted, follow_next}
use Rattle.c_parser_nodes.specs.Tallies.{seen}
use Rattle.c_parser_nodes.proofs.nodes.node_count.Goals as goal

pub loop-action-preserved : goal.loop-action-preserved
loop-action-preserved c =
    follow_next c.args.actions.now c.loop-action.action-index c.action-item.result (seen c.loop-action.tallies) (seen c.apply.new.self) c.loop-action-test.true c.action-item.is c.loop-action.invariant
    (c.in_ok-apply.ensures ∙ ap (λ (x : Effect). affected x (seen c.loop-action.tallies)) c.effect_of.ensures)

pub returns : goal.returns
returns c =
    subst (IsCount c.args.actions.now) (sym (ap (λ (x : Tally). x.once) c.pop.ensures.top))
    (counted c.args.actions.now c.loop-action.action-index (seen c.loop-action.tallies) c.loop-action-test.false c.loop-action.invariant)
