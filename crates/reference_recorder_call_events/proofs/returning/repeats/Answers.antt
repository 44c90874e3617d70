use Rattle.std.proofs.Common.{ap, ◌∙◌}
use Rattle.replay_runs.specs.Threads.{same_return}
use Rattle.reference_recorder_call_events.proofs.returning.repeats.Goals as goal

pub returns : goal.returns
returns c = λ start.
    c.same_return.ensures ∙ ap (λ last. same_return last (record { result = c.args.value; bytes = c.args.pieces.now })) (c.in_ok-last.ensures start)
