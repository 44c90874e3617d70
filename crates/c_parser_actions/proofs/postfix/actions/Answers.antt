use Rattle.std.proofs.Common.{[], ◌∷◌, List, reverse, ap, sym, ◌∙◌}
use Rattle.c_parser_moves.specs.declared.action.Action.{Action}
use Rattle.c_parser_moves.specs.declared.action.Action.TheVariants as acts
use Rattle.c_parser_moves.specs.declared.frame.Frame.{Frame}
use Rattle.c_parser_actions.specs.Pieces.{acted}
use Rattle.c_parser_actions.specs.Seen.{acts_seen, opens_seen}
use Rattle.c_parser_actions.proofs.Foretold.{run_foretold}
use Rattle.c_parser_actions.proofs.Exact.{run_begins, run_on, run_less, run_found, run_only, run_none}
use Rattle.c_parser_actions.proofs.postfix.actions.Goals as goal

pub loop-at-init : goal.loop-at-init
unfolding acts_seen opens_seen
loop-at-init c = record {
  reached = run_begins c.args.tokens.now _ _ (c.in_ok-emit.ensures.acts ∙ ap (λ (v : List Action). acts.NoDecls ∷ reverse v) c.new.ensures.items) (c.in_ok-emit.ensures.opens ∙ ap (λ (v : List Frame). reverse v) c.new-2.ensures.items);
  foretold = c.in_ok-ahead.ensures;
}

pub loop-at-smaller : goal.loop-at-smaller
loop-at-smaller c = run_less _ c.loop-at.next _ c.loop-at.rest.now _ c.in_ok-then.ensures (sym c.is_working.ensures ∙ c.loop-at-test.true)

pub loop-at-preserved : goal.loop-at-preserved
loop-at-preserved c = record {
  reached = run_on _ _ c.loop-at.next _ c.loop-at.rest.now _ c.loop-at.invariant.reached c.in_ok-then.ensures;
  foretold = run_foretold _ _ c.loop-at.next _ c.loop-at.rest.now _ c.loop-at.invariant.foretold c.in_ok-then.ensures;
}

pub returns-in-End : goal.returns-in-End
returns-in-End c =
    let f = run_found c.args.tokens.now c.loop-at.next (acts_seen c.loop-at.parser) _ _ c.loop-at.invariant.reached c.in-End.is in
    let same = ap (λ (z : List Action). acted z []) c.into_actions.ensures.actions in
    record { found = (f.0, f.1, same ∙ f.2); only = λ ds d. same ∙ run_only c.args.tokens.now c.loop-at.next (acts_seen c.loop-at.parser) _ _ c.loop-at.invariant.reached c.in-End.is ds d; none = tt }

pub returns : goal.returns
returns c = record { found = tt; only = tt; none = λ ds d. run_none c.args.tokens.now c.loop-at.next (acts_seen c.loop-at.parser) _ _ c.loop-at.invariant.reached (sym c.is_working.ensures ∙ c.loop-at-test.false) c.in_default.not-End ds d }
