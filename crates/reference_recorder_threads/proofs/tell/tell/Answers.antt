use Rattle.std.proofs.Common.{◌∙◌, ap, refl}
use Rattle.recorder_state.specs.Inputs.{world_of}
use Rattle.recorder_threads.specs.Threads.{args_at}
use Rattle.reference_recorder_marks.specs.Marks.{act_of}
use Rattle.reference_recorder_threads.specs.Telling.{act_report}
use Rattle.reference_recorder_threads.proofs.Marked.{below, crosses, frames, goes, nothing, short, ups, values}
use Rattle.reference_recorder_threads.proofs.tell.tell.Goals as goal

pub want-next-requires-clause-started : goal.want-next-requires-clause-started
want-next-requires-clause-started c = below (world_of c.args.inputs) c.args.threads.now c.args.mark.now c.requires

pub want-next-requires-clause-inside : goal.want-next-requires-clause-inside
want-next-requires-clause-inside c = c.requires.stand.inside

pub report_of-requires : goal.report_of-requires
report_of-requires c =
    let w = world_of c.args.inputs in
    let n = c.requires in
    short w c.args.threads.now c.args.mark.now n (args_at c.args.threads.now c.args.mark.now.thread) c.want-next.result (c.want-next.ensures w n.past refl n.stand)

pub unreachable-requires : goal.unreachable-requires
unreachable-requires c =
    let w = world_of c.args.inputs in
    let n = c.requires in
    nothing w c.args.threads.now c.args.mark.now n (args_at c.args.threads.now c.args.mark.now.thread) c.want-next.result (c.want-next.ensures w n.past refl n.stand)
    (c.in-Nothing.ensures ∙ ap (λ g. act_report g (act_of c.args.mark.now.act)) c.is_given-gives.ensures)

pub go-requires : goal.go-requires
go-requires c =
    let w = world_of c.args.inputs in
    let n = c.requires in
    goes w c.args.threads.now c.args.mark.now n (args_at c.args.threads.now c.args.mark.now.thread) c.want-next.result (c.want-next.ensures w n.past refl n.stand)
    (c.in-Go.ensures ∙ ap (λ g. act_report g (act_of c.args.mark.now.act)) c.is_given-gives.ensures)

pub returns-in-Go : goal.returns-in-Go
returns-in-Go c = λ n.
    let w = world_of c.args.inputs in
    c.go.ensures (goes w c.args.threads.now c.args.mark.now n (args_at c.args.threads.now c.args.mark.now.thread) c.want-next.result (c.want-next.ensures w n.past refl n.stand)
    (c.in-Go.ensures ∙ ap (λ g. act_report g (act_of c.args.mark.now.act)) c.is_given-gives.ensures))

pub give-requires : goal.give-requires
give-requires c =
    let w = world_of c.args.inputs in
    let n = c.requires in
    values w c.args.threads.now c.args.mark.now n (args_at c.args.threads.now c.args.mark.now.thread) c.want-next.result (c.want-next.ensures w n.past refl n.stand) c.in-Value.value
    (c.in-Value.ensures ∙ ap (λ g. act_report g (act_of c.args.mark.now.act)) c.is_given-gives.ensures)

pub returns-in-Value : goal.returns-in-Value
returns-in-Value c = λ n.
    let w = world_of c.args.inputs in
    c.give.ensures (values w c.args.threads.now c.args.mark.now n (args_at c.args.threads.now c.args.mark.now.thread) c.want-next.result (c.want-next.ensures w n.past refl n.stand) c.in-Value.value
    (c.in-Value.ensures ∙ ap (λ g. act_report g (act_of c.args.mark.now.act)) c.is_given-gives.ensures))

pub next_in_frame-next-requires : goal.next_in_frame-next-requires
next_in_frame-next-requires c =
    let w = world_of c.args.inputs in
    let n = c.requires in
    frames w c.args.threads.now c.args.mark.now n (args_at c.args.threads.now c.args.mark.now.thread) c.want-next.result (c.want-next.ensures w n.past refl n.stand) c.in-Frame.frame
    (c.in-Frame.ensures ∙ ap (λ g. act_report g (act_of c.args.mark.now.act)) c.is_given-gives.ensures)

pub returns-in-Frame : goal.returns-in-Frame
returns-in-Frame c = λ n.
    let w = world_of c.args.inputs in
    c.next_in_frame-next.ensures.stand (frames w c.args.threads.now c.args.mark.now n (args_at c.args.threads.now c.args.mark.now.thread) c.want-next.result (c.want-next.ensures w n.past refl n.stand) c.in-Frame.frame
    (c.in-Frame.ensures ∙ ap (λ g. act_report g (act_of c.args.mark.now.act)) c.is_given-gives.ensures))

pub cross-requires : goal.cross-requires
cross-requires c =
    let w = world_of c.args.inputs in
    let n = c.requires in
    crosses w c.args.threads.now c.args.mark.now n (args_at c.args.threads.now c.args.mark.now.thread) c.want-next.result (c.want-next.ensures w n.past refl n.stand)
    (c.in-Crosses.ensures ∙ ap (λ g. act_report g (act_of c.args.mark.now.act)) c.is_given-gives.ensures)

pub returns-in-Crosses : goal.returns-in-Crosses
returns-in-Crosses c = λ n.
    let w = world_of c.args.inputs in
    c.cross.ensures (crosses w c.args.threads.now c.args.mark.now n (args_at c.args.threads.now c.args.mark.now.thread) c.want-next.result (c.want-next.ensures w n.past refl n.stand)
    (c.in-Crosses.ensures ∙ ap (λ g. act_report g (act_of c.args.mark.now.act)) c.is_given-gives.ensures))

pub call_back-requires : goal.call_back-requires
call_back-requires c =
    let w = world_of c.args.inputs in
    let n = c.requires in
    ups w c.args.threads.now c.args.mark.now n (args_at c.args.threads.now c.args.mark.now.thread) c.want-next.result (c.want-next.ensures w n.past refl n.stand)
    (c.in-Up.ensures ∙ ap (λ g. act_report g (act_of c.args.mark.now.act)) c.is_given-gives.ensures)

pub returns-in-Up : goal.returns-in-Up
returns-in-Up c = λ n.
    let w = world_of c.args.inputs in
    c.call_back.ensures (ups w c.args.threads.now c.args.mark.now n (args_at c.args.threads.now c.args.mark.now.thread) c.want-next.result (c.want-next.ensures w n.past refl n.stand)
    (c.in-Up.ensures ∙ ap (λ g. act_report g (act_of c.args.mark.now.act)) c.is_given-gives.ensures))
