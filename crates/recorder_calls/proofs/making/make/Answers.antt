use Rattle.std.proofs.Common.{◌+◌, ◌++◌, length, refl, sym, ap, ◌∙◌, subst, arith}
use Rattle.marks.specs.declared.side.Side.TheVariants.{Replay}
use Rattle.marks.specs.Wants.{Calls, Go}
use Rattle.steps_above_interface.specs.Stands.{CountsCall}
use Rattle.recorder_threads.specs.declared.wants.Want.TheVariants as wants
use Rattle.recorder_threads.specs.Threads.{args_at}
use Rattle.recorder_threads.specs.Answers.{IsCallTo}
use Rattle.recorder_state.specs.declared.state.RunState.{RunState}
use Rattle.recorder_state.specs.Inputs.{world_of}
use Rattle.recorder_plain.proofs.Steps.{few}
use Rattle.recorder_events.specs.Making.{IsEventStep}
use Rattle.recorder_events.proofs.Marked.{plain_answer, step_told}
use Rattle.recorder_events.proofs.Steps.{watch_few}
use Rattle.recorder_calls.proofs.Called.{all_read, coming_so, event_step, run, stands}
use Rattle.recorder_calls.proofs.Ends.{call_refused}
use Rattle.recorder_calls.proofs.Undone.{left_spaces, left_watch}
use Rattle.recorder_memory.specs.declared.memory.Memory.{Memory}
use Rattle.recorder_calls.proofs.making.make.Goals.{After-register}
use Rattle.recorder_calls.proofs.making.make.Goals as goal

pub call-requires-clause-in_range : goal.call-requires-clause-in_range
call-requires-clause-in_range c = let h = c.requires.next in few _ c.args.state.now c.args.thread Replay (wants.Call h.indirect h.func) h.at

pub call-requires-clause-calls : goal.call-requires-clause-calls
call-requires-clause-calls c =
    let h = c.requires.next in
    let lt = few _ c.args.state.now c.args.thread Replay (wants.Call h.indirect h.func) h.at in
    let n = (stands _ c.args.state.now c.args.thread c.args.regions.now c.args.keys.now c.args.event h).spaces.sound.held.threads in
    omega (arith, n, lt)

pub call-requires-clause-few : goal.call-requires-clause-few
call-requires-clause-few c = watch_few _ c.args.state.now c.requires.next.at.reached

pub returns-in-Err-clause-stopped : goal.returns-in-Err-clause-stopped
returns-in-Err-clause-stopped c =
    let h = c.requires.next in
    let at = run _ c.args.state.now c.args.thread c.args.regions.now c.args.keys.now c.args.event h in
    c.stop_of.ensures (world_of c.args.inputs) _ (λ cause. call_refused (world_of c.args.inputs) c.args.state.now c.args.thread c.args.regions.now c.args.keys.now c.args.event h c.in-Err.refusal (record { above = c.call.new.self }) c.in-Err.ensures.refused
    (left_spaces c.args.state.now.memory.above c.call.new.self (c.in-Err.ensures.unchanged cause) at) (left_watch c.args.state.now.memory.above c.call.new.self (c.in-Err.ensures.unchanged cause) at))

pub make_event-requires-clause-coming : goal.make_event-requires-clause-coming
make_event-requires-clause-coming c =
    coming_so _ c.args.state.now c.args.thread c.args.regions.now c.args.keys.now c.args.event c.requires.next c.call.new.self.spaces c.in_default-call.ensures.spaces c.in_default-call.ensures.passes (record { above = c.call.new.self })

told : (c : After-register) → IsEventStep (world_of c.args.inputs) (record c.make_event.new.state { output = c.print.new.output; interface = c.register.new.self }) c.args.thread (Calls c.requires.next.indirect c.requires.next.func (args_at c.args.state.now.threads c.args.thread)) Go
told c =
    let w = world_of c.args.inputs in
    let s = c.args.state.now in
    let h = c.requires.next in
    let memory : Memory = record { above = c.call.new.self } in
    let parts = c.in_default-call.ensures.spaces in
    let passes = c.in_default-call.ensures.passes in
    let r = c.in_default-make_event.ensures (coming_so w s c.args.thread c.args.regions.now c.args.keys.now c.args.event h c.call.new.self.spaces parts passes memory) in
    let new1 : RunState = c.make_event.new.state in
    let fin : RunState = record new1 { output = c.print.new.output; interface = c.register.new.self } in
    event_step w s c.args.thread c.args.regions.now c.args.keys.now c.args.event h c.call.new.self.spaces parts passes memory new1 fin r c.as_slice.result.now
    (c.as_slice.ensures.value ∙ c.in-Ok.ensures (all_read w s c.args.thread c.args.regions.now c.args.keys.now c.args.event h c.call.new.self.spaces parts passes))
    (c.in_default-print.ensures ∙ ap (λ (z : RunState). z.output.items ++ c.as_slice.result.now) r.rest)
    (subst (λ (z : RunState). CountsCall c.args.keys.now z.interface c.register.new.self) r.rest c.register.ensures.counts)
    (c.register.ensures.functions ∙ ap (λ (z : RunState). length z.interface.registered) r.rest)
    refl c.in_default-call.ensures.made refl c.requires.room

-- the call is one of the function of its event
calls_it : (c : After-register) → IsCallTo c.func_of-func.result (Calls c.requires.next.indirect c.requires.next.func (args_at c.args.state.now.threads c.args.thread))
calls_it c =
    let h = c.requires.next in
    let args = args_at c.args.state.now.threads c.args.thread in
    (h.indirect, args, ap (λ f. Calls h.indirect f args) (sym (c.func_of-func.ensures h.func args (sym h.event_is))))

pub func_of-func-requires : goal.func_of-func-requires
func_of-func-requires c = let h = c.requires.next in (h.func, args_at c.args.state.now.threads c.args.thread, sym h.event_is)

pub next_across-next-requires : goal.next_across-next-requires
next_across-next-requires c =
    let r = (goal.at.next_across-next-requires c).After-register in
    plain_answer _ _ c.args.thread _ Go (told r) (IsCallTo c.func_of-func.result) (calls_it r)

pub end_step_known-requires-clause-told : goal.end_step_known-requires-clause-told
end_step_known-requires-clause-told c =
    let r = (goal.at.end_step_known-requires-clause-told c).After-register in
    let d = told r in
    step_told _ _ c.args.thread _ Go d _ (c.next_across-next.ensures.stand (plain_answer _ _ c.args.thread _ Go d (IsCallTo c.func_of-func.result) (calls_it r)))

pub returns-clause-steps : goal.returns-clause-steps
returns-clause-steps c =
    let r = c.in_default-make_event.ensures (coming_so _ c.args.state.now c.args.thread c.args.regions.now c.args.keys.now c.args.event c.requires.next c.call.new.self.spaces c.in_default-call.ensures.spaces c.in_default-call.ensures.passes (record { above = c.call.new.self })) in
    c.end_step_known.ensures.steps ∙ ap (λ (z : RunState). z.steps + 1) r.rest
