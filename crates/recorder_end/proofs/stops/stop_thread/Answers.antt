use Rattle.std.proofs.Common.{◌++◌, refl, sym, ◌∙◌}
use Rattle.recorder_end.proofs.Stopping.{below, few_events, few_records, in_full_form, on_ok, passed, stopped}
use Rattle.recorder_end.proofs.stops.stop_thread.Goals as goal

pub returns-then-not-in_replay_mode-clause-stopped :
    goal.returns-then-not-in_replay_mode-clause-stopped
returns-then-not-in_replay_mode-clause-stopped c =
    let h = c.requires.stopping in
    passed _ c.args.state.now c.args.ending c.args.thread h (sym (c.in_replay_mode.ensures _ (h.last ++ h.past) refl h.threads) ∙ c.if-not-in_replay_mode.true)

pub stamp-requires-clause-thread : goal.stamp-requires-clause-thread
stamp-requires-clause-thread c = below _ c.args.state.now c.args.ending c.args.thread c.requires.stopping c.requires.started

pub stamp-requires-clause-few : goal.stamp-requires-clause-few
stamp-requires-clause-few c = few_events _ c.args.state.now c.args.ending c.args.thread c.requires.stopping c.requires.started

pub add-requires-clause-form : goal.add-requires-clause-form
add-requires-clause-form c =
    in_full_form _ c.args.state.now c.args.ending c.args.thread c.requires.stopping c.in_ok-stamp.stamp c.in_ok-stamp.ensures.keys c.reason.result c.reason.ensures
    (below _ c.args.state.now c.args.ending c.args.thread c.requires.stopping c.requires.started) c.in_ok-stamp.ensures.ranges

pub add-requires-clause-few : goal.add-requires-clause-few
add-requires-clause-few c = (few_records _ c.args.state.now c.args.ending c.args.thread c.requires.stopping c.requires.started).events

pub add-requires-clause-short : goal.add-requires-clause-short
add-requires-clause-short c = (few_records _ c.args.state.now c.args.ending c.args.thread c.requires.stopping c.requires.started).bytes

pub returns-clause-stopped : goal.returns-clause-stopped
returns-clause-stopped c =
    let h = c.requires.stopping in
    on_ok c.add.result
    (stopped _ c.args.state.now c.args.ending c.args.thread h c.in_ok-stamp.stamp c.in_ok-stamp.ensures.keys c.reason.result c.reason.ensures
    (sym (c.in_replay_mode.ensures _ (h.last ++ h.past) refl h.threads) ∙ c.if-not-in_replay_mode.false)
    c.stamp.new.self c.in_ok-stamp.ensures.stamp c.in_ok-stamp.ensures.counts c.add.new.self)
    c.add.ensures.added
