use Rattle.std.proofs.Common.{◌+◌, sym, ap, ◌∙◌, subst}
use Rattle.marks.specs.Wants.{Go}
use Rattle.recorder_threads.specs.Answers.{IsNoCall}
use Rattle.recorder_events.proofs.Marked.{plain_answer, step_told}
use Rattle.recorder_events.proofs.calls_back.up_return.Goals as goal

pub next_after-next-requires-clause-plain : goal.next_after-next-requires-clause-plain
next_after-next-requires-clause-plain c =
    let h = c.requires in
    plain_answer _ _ c.args.thread h.step.want Go (c.in_default.ensures.made h) IsNoCall (subst IsNoCall (sym h.told.1) (λ z. z))

pub end_step_known-requires-clause-told : goal.end_step_known-requires-clause-told
end_step_known-requires-clause-told c =
    let h = c.requires in
    let made = c.in_default.ensures.made h in
    step_told _ _ c.args.thread h.step.want Go made _ (c.next_after-next.ensures.stand (plain_answer _ _ c.args.thread h.step.want Go made IsNoCall (subst IsNoCall (sym h.told.1) (λ z. z))))

pub returns-clause-steps : goal.returns-clause-steps
returns-clause-steps c = c.end_step_known.ensures.steps ∙ ap (λ n. n + 1) c.in_default.ensures.steps

pub end_step_known-requires-clause-next : goal.end_step_known-requires-clause-next
end_step_known-requires-clause-next c = c.next_after-next.ensures.next
