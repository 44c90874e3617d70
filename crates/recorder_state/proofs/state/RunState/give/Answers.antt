use Rattle.std.proofs.Common.{sym, subst}
use Rattle.marks.specs.Wants.{Value}
use Rattle.recorder_system.specs.Calls.{HasInt, Notes}
use Rattle.recorder_state.specs.Inputs.{world_of}
use Rattle.recorder_state.proofs.Results.{are_ints, is_result, is_started, runs, step_told}
use Rattle.recorder_state.proofs.state.RunState.give.Goals as goal

pub args-requires : goal.args-requires
args-requires c = is_started (world_of c.args.inputs) c.args.self.now c.args.thread c.args.func c.args.value (Value c.args.value) c.requires

pub note-requires-clause-running : goal.note-requires-clause-running
note-requires-clause-running c = runs (world_of c.args.inputs) c.args.self.now c.args.thread c.args.func c.args.value (Value c.args.value) c.requires

pub note-requires-clause-ints : goal.note-requires-clause-ints
note-requires-clause-ints c =
    subst (HasInt c.args.func) (sym c.args-2.ensures) (are_ints (world_of c.args.inputs) c.args.self.now c.args.thread c.args.func c.args.value (Value c.args.value) c.requires)

pub give_to-requires : goal.give_to-requires
give_to-requires c = is_result (world_of c.args.inputs) c.args.self.now c.args.thread c.args.func c.args.value c.requires

pub end_step_known-requires-clause-told : goal.end_step_known-requires-clause-told
end_step_known-requires-clause-told c =
    let w = world_of c.args.inputs in
    let s = c.args.self.now in
    let t = c.args.thread in
    step_told w s t c.args.func c.args.value (Value c.args.value) c.requires c.give_to.new.threads c.note.new.self
    (c.in_ok-next.ensures.stand (is_result w s t c.args.func c.args.value c.requires))
    (subst (λ xs. Notes t c.args.func xs s.system c.note.new.self) c.args-2.ensures c.in_ok-note.ensures.noted) c.note.ensures.running

pub end_step_known-requires-clause-next : goal.end_step_known-requires-clause-next
end_step_known-requires-clause-next c = c.in_ok-next.ensures.next
