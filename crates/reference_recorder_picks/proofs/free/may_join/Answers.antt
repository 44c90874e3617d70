use Rattle.std.proofs.Common.{◌∙◌, ◌||◌, not, Some, None, sym, ap}
use Rattle.whole_runs.specs.Threads.{has_ended}
use Rattle.recorder_state.specs.Inputs.{world_of}
use Rattle.reference_recorder_picks.proofs.Picking.{is_other_by, which_other}
use Rattle.reference_recorder_picks.proofs.free.may_join.Goals as goal

pub is_ended-requires-clause-started : goal.is_ended-requires-clause-started
is_ended-requires-clause-started c = c.in-Some.ensures.started

pub returns-in-Some : goal.returns-in-Some
returns-in-Some c = λ p.
    let w = world_of c.args.inputs in
    let e = sym (c.in-Some.ensures.other p) in
    c.is_ended.ensures p
    ∙ (ap (has_ended w p.run) (which_other p.run c.args.thread c.args.number c.in-Some.joined e)
    ∙ ap (λ b. not b || has_ended w p.run c.args.number) (sym (is_other_by p.run c.args.thread c.args.number (Some c.in-Some.joined) e)))

pub returns-in-None : goal.returns-in-None
returns-in-None c = λ p.
    let w = world_of c.args.inputs in
    ap (λ b. not b || has_ended w p.run c.args.number) (sym (is_other_by p.run c.args.thread c.args.number None (sym (c.in-None.ensures.other p))))
