use Rattle.std.proofs.Common.{◌∙◌, ap}
use Rattle.whole_runs.specs.Picks.{is_free as is_free_in}
use Rattle.recorder_state.specs.Inputs.{world_of}
use Rattle.reference_recorder_picks.specs.Picks.{free_by}
use Rattle.reference_recorder_picks.proofs.Picking.{free_is}
use Rattle.reference_recorder_picks.proofs.free.is_free.Goals as goal

pub returns-in-Some : goal.returns-in-Some
returns-in-Some c = λ p.
    let w = world_of c.args.inputs in
    c.is_builtin_free.ensures p
    ∙ (ap (λ k. free_by w p.run c.args.thread k c.in-Some.builtin) c.first.ensures
    ∙ (free_is w p.run c.args.thread c.args.args.now c.in-Some.builtin ∙ ap (is_free_in w p.run c.args.thread c.args.args.now) c.in-Some.ensures))

pub returns-in-None : goal.returns-in-None
returns-in-None c = λ p. ap (is_free_in (world_of c.args.inputs) p.run c.args.thread c.args.args.now) c.in-None.ensures
