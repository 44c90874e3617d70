use Rattle.std.proofs.Common.{refl, subst}
use Rattle.whole_runs.specs.Threads.{comes}
use Rattle.recorder_state.specs.Inputs.{world_of}
use Rattle.recorder_threads.specs.Threads.{args_at}
use Rattle.recorder_threads.specs.Wants.{IsNextTold}
use Rattle.reference_recorder.proofs.Turning.{is_started, not_ended, steps_next}
use Rattle.reference_recorder.proofs.turns.turn_of.Goals as goal

pub want-requires-clause-started : goal.want-requires-clause-started
want-requires-clause-started c = is_started (world_of c.args.inputs) c.args.marks.now c.requires.past c.args.threads.now c.requires.threads c.args.thread (c.requires.next c.requires.past)

pub want-requires-clause-inside : goal.want-requires-clause-inside
want-requires-clause-inside c = (c.requires.threads c.requires.past).inside

pub unreachable-requires : goal.unreachable-requires
unreachable-requires c =
    let w = world_of c.args.inputs in
    let p = c.requires.past in
    not_ended w c.args.marks.now p c.args.threads.now c.requires.threads c.args.thread (c.requires.next p) c.in-Ended.result
    (subst (λ n. IsNextTold w.laid (args_at c.args.threads.now c.args.thread) n (comes w p.run c.args.thread)) c.in-Ended.is (c.want.ensures w p.run refl (c.requires.threads p)))

pub returns : goal.returns
returns c = λ p.
    let w = world_of c.args.inputs in
    steps_next w c.args.marks.now p c.args.threads.now c.requires.threads c.args.thread (c.requires.next p) c.in-Wants.side c.in-Wants.want
    (subst (λ n. IsNextTold w.laid (args_at c.args.threads.now c.args.thread) n (comes w p.run c.args.thread)) c.in-Wants.is (c.want.ensures w p.run refl (c.requires.threads p)))
