use Rattle.std.proofs.Common.{◌++◌, refl, sym, ◌∙◌, subst}
use Rattle.replay_runs.specs.Runs.{OfThread}
use Rattle.recorder_state.specs.Inputs.{world_of}
use Rattle.reference_recorder_end.specs.Ends.{AreFirstStops}
use Rattle.reference_recorder_end.proofs.Stopped.{clocks_fit, few_at_end, no_more, one_more}
use Rattle.reference_recorder_end.proofs.stops.add_stop.Goals as goal

pub stop_of-requires-clause-few : goal.stop_of-requires-clause-few
stop_of-requires-clause-few c = few_at_end (world_of c.args.inputs) c.args.run.now c.requires.at_end.past

pub stop_of-requires-clause-clock : goal.stop_of-requires-clause-clock
stop_of-requires-clause-clock c = clocks_fit (world_of c.args.inputs) c.args.run.now c.requires.at_end.past (OfThread c.args.thread)

pub returns-in_ok-push : goal.returns-in_ok-push
returns-in_ok-push c =
    let w = world_of c.args.inputs in
    subst (AreFirstStops w c.args.run.now c.args.threads.now _) (sym c.in_ok-push.ensures.items)
    (one_more w c.args.run.now c.args.threads.now c.args.thread c.args.stops.now.items c.requires.before c.stop_of.result
    (λ e. sym (c.in_replay_mode.ensures w (e.past.last ++ e.past.past) refl e.are) ∙ c.if-in_replay_mode.true)
    (c.stop_of.ensures w))

pub returns-else-in_replay_mode : goal.returns-else-in_replay_mode
returns-else-in_replay_mode c =
    let w = world_of c.args.inputs in
    no_more w c.args.run.now c.args.threads.now c.args.thread c.args.stops.now.items c.requires.before
    (λ e. sym (c.in_replay_mode.ensures w (e.past.last ++ e.past.past) refl e.are) ∙ c.if-in_replay_mode.false)
