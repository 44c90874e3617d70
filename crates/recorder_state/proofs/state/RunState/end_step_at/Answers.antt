use Rattle.std.proofs.Common.{◌+◌, ◌∷◌, None, sym, subst}
use Rattle.recorder_system.proofs.Told.{goes_on}
use Rattle.recorder_threads.specs.Threads.{IsNextOf}
use Rattle.recorder_state.specs.declared.state.RunState.{RunState}
use Rattle.recorder_state.specs.Inputs.{world_of}
use Rattle.recorder_state.specs.Stands.{IsGoneOn, KeepsSystem}
use Rattle.recorder_state.proofs.Ending.{goes_on_so, gone_on, has_ended, is_int, keeps_system}
use Rattle.recorder_state.proofs.state.RunState.end_step_at.Goals.{in-Ended, in_default}
use Rattle.recorder_state.proofs.state.RunState.end_step_at.Goals as goal

pub end-requires-clause-int : goal.end-requires-clause-int
end-requires-clause-int c =
    let w = world_of c.args.inputs in
    let s = c.args.self.now in
    let t = c.args.thread in
    is_int w s t c.requires.told c.in-Ended.result (has_ended w s t c.requires.told c.in-Ended.result (subst (IsNextOf w.laid s.threads t) c.in-Ended.is c.requires.next))

pub returns-clause-gone_on : goal.returns-clause-gone_on
returns-clause-gone_on c =
    let w = world_of c.args.inputs in
    let s = c.args.self.now in
    let t = c.args.thread in
    let h = c.requires.told in
    let now = h.marked.mark ∷ h.marked.past in
    elim c.match-next.branch [
      | in-Ended b ↦ subst (λ (z : RunState). IsGoneOn w (record z { known = None; steps = z.steps + 1 }) t c.args.next) (sym b.self-is)
          (gone_on w s t h c.args.next b.end.new.self c.requires.next (b.end.ensures w now (has_ended w s t h b.in-Ended.result (subst (IsNextOf w.laid s.threads t) b.in-Ended.is c.requires.next)) h.system))
      | in_default b ↦ subst (λ (z : RunState). IsGoneOn w (record z { known = None; steps = z.steps + 1 }) t c.args.next) (sym b.self-is)
          (gone_on w s t h c.args.next s.system c.requires.next (goes_on w now t s.system (goes_on_so w s t h c.args.next b.in_default.not-Ended c.requires.next) h.system))
    ]

pub returns-clause-system : goal.returns-clause-system
returns-clause-system c =
    elim c.match-next.branch [
      | in-Ended b ↦ subst (λ n. KeepsSystem n c.args.self.now.system c.match-next.self.system) (sym b.in-Ended.is) tt
      | in_default b ↦ subst (λ (z : RunState). KeepsSystem c.args.next c.args.self.now.system z.system) (sym b.self-is) (keeps_system c.args.next c.args.self.now.system b.in_default.not-Ended)
    ]

pub end-requires-clause-running : goal.end-requires-clause-running
end-requires-clause-running c = c.requires.told.running
