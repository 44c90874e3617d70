use Rattle.std.proofs.Common.{sym, subst}
use Rattle.marks.specs.Wants.{Go}
use Rattle.recorder_system.specs.Calls.{HasInt, Notes}
use Rattle.recorder_state.specs.Inputs.{world_of}
use Rattle.recorder_state.proofs.Results.{are_ints, is_back_plain, is_started, runs, step_told}
use Rattle.recorder_state.proofs.state.RunState.give_back.Goals as goal

pub args-requires : goal.args-requires
args-requires c = is_started (world_of c.args.inputs) c.args.self.now c.args.thread c.args.func c.requires.0 Go c.requires.1

pub note-requires-clause-running : goal.note-requires-clause-running
note-requires-clause-running c = runs (world_of c.args.inputs) c.args.self.now c.args.thread c.args.func c.requires.0 Go c.requires.1

pub note-requires-clause-ints : goal.note-requires-clause-ints
note-requires-clause-ints c =
    subst (HasInt c.args.func) (sym c.args-2.ensures) (are_ints (world_of c.args.inputs) c.args.self.now c.args.thread c.args.func c.requires.0 Go c.requires.1)

pub next_after-next-requires-clause-plain : goal.next_after-next-requires-clause-plain
next_after-next-requires-clause-plain c = is_back_plain (world_of c.args.inputs) c.args.self.now c.args.thread c.args.func c.requires.0 c.requires.1

pub end_step_known-requires-clause-told : goal.end_step_known-requires-clause-told
end_step_known-requires-clause-told c =
    let w = world_of c.args.inputs in
    let s = c.args.self.now in
    let t = c.args.thread in
    step_told w s t c.args.func c.requires.0 Go c.requires.1 c.next_after-next.new.self c.note.new.self
    (c.next_after-next.ensures.stand (is_back_plain w s t c.args.func c.requires.0 c.requires.1))
    (subst (λ xs. Notes t c.args.func xs s.system c.note.new.self) c.args-2.ensures c.in_ok-note.ensures.noted) c.note.ensures.running

pub end_step_known-requires-clause-next : goal.end_step_known-requires-clause-next
end_step_known-requires-clause-next c = c.next_after-next.ensures.next
