use Rattle.std.proofs.Common.{sym, subst}
use Rattle.c_machine.specs.Wants.{told}
use Rattle.recorder_state.specs.declared.state.RunState.{RunState}
use Rattle.recorder_state.specs.Inputs.{world_of}
use Rattle.recorder_threads.specs.Threads.{IsNextOf}
use Rattle.recorder_state.specs.Plain.{IsStepTold}
use Rattle.recorder_state.specs.Stands.{KeepsSystem}
use Rattle.recorder_state.proofs.Flags.{is_system}
use Rattle.recorder_state.proofs.PlainSteps.{told_goes_on, is_plain, steps_few, counted, uncounted, step_told}
use Rattle.recorder_state.proofs.state.RunState.go_on_to.Goals.{in-Replay, in_default}
use Rattle.recorder_state.proofs.state.RunState.go_on_to.Goals as goal

pub tell-next-requires : goal.tell-next-requires
tell-next-requires c = is_plain (world_of c.args.inputs) c.args.self.now c.args.thread c.args.side (told c.args.answer) c.requires (told_goes_on c.args.answer)

pub step-requires-clause-few : goal.step-requires-clause-few
step-requires-clause-few c = steps_few (world_of c.args.inputs) c.args.self.now c.args.thread c.args.side (told c.args.answer) c.requires (told_goes_on c.args.answer)

pub end_step_at-requires-clause-told : goal.end_step_at-requires-clause-told
end_step_at-requires-clause-told c =
    let w = world_of c.args.inputs in
    let s = c.args.self.now in
    let t = c.args.thread in
    let x = told c.args.answer in
    let goes = told_goes_on c.args.answer in
    elim c.match-side.branch [
      | in-Replay b ↦ subst (λ (z : RunState). IsStepTold w z t) (sym b.self-is)
          (step_told w s t c.args.side x c.requires goes c.tell-next.new.threads b.step.new.self c.tell-next.ensures.stand (counted w s t c.args.side x c.requires goes b.step.new.self b.in-Replay.is b.step.ensures))
      | in_default b ↦ subst (λ (z : RunState). IsStepTold w z t) (sym b.self-is)
          (step_told w s t c.args.side x c.requires goes c.tell-next.new.threads s.stamps c.tell-next.ensures.stand (uncounted w s t c.args.side x c.requires goes (is_system c.args.side b.in_default.not-Replay)))
    ]

pub end_step_at-requires-clause-next : goal.end_step_at-requires-clause-next
end_step_at-requires-clause-next c =
    let w = world_of c.args.inputs in
    elim c.match-side.branch [
      | in-Replay b ↦ subst (λ (z : RunState). IsNextOf w.laid z.threads c.args.thread c.tell-next.result) (sym b.self-is) c.tell-next.ensures.next
      | in_default b ↦ subst (λ (z : RunState). IsNextOf w.laid z.threads c.args.thread c.tell-next.result) (sym b.self-is) c.tell-next.ensures.next
    ]

pub returns-clause-system : goal.returns-clause-system
returns-clause-system c =
    elim c.match-side.branch [
      | in-Replay b ↦ subst (λ (z : RunState). KeepsSystem c.tell-next.result z.system c.end_step_at.new.self.system) b.self-is c.end_step_at.ensures.system
      | in_default b ↦ subst (λ (z : RunState). KeepsSystem c.tell-next.result z.system c.end_step_at.new.self.system) b.self-is c.end_step_at.ensures.system
    ]
