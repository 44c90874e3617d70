use Rattle.std.proofs.Common.{◌+◌, ap, ◌∙◌}
use Rattle.marks.specs.Wants.{CalledBack}
use Rattle.recorder_threads.specs.Threads.{args_at}
use Rattle.recorder_events.proofs.Marked.{step_told}
use Rattle.recorder_events.proofs.Ups.{up_told}
use Rattle.recorder_events.proofs.calls_back.up.Goals as goal

pub call_back-requires : goal.call_back-requires
call_back-requires c = up_told _ c.args.state.now c.args.thread c.args.func c.requires _ (c.in_default.ensures.made c.requires)

pub end_step-requires : goal.end_step-requires
end_step-requires c =
    let h = c.requires in
    let made = c.in_default.ensures.made h in
    step_told _ _ c.args.thread h.at.step.want (CalledBack c.args.func (args_at c.args.state.now.threads c.args.thread)) made _ (c.call_back.ensures (up_told _ c.args.state.now c.args.thread c.args.func h _ made))

pub returns-clause-steps : goal.returns-clause-steps
returns-clause-steps c = c.end_step.ensures.steps ∙ ap (λ n. n + 1) c.in_default.ensures.steps
