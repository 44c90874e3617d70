use Rattle.std.proofs.Common.{◌≡◌, subst}
use Rattle.recorder_threads.specs.Threads.{IsNextOf}
use Rattle.recorder_state.specs.Inputs.{world_of}
use Rattle.recorder_state.specs.Stands.{IsKnown}
use Rattle.recorder_state.proofs.state.RunState.next_of.Goals as goal

pub returns-then-known-thread : goal.returns-then-known-thread
returns-then-known-thread c =
    let w = world_of c.args.inputs in
    let s = c.args.self.now in
    let known = subst (IsKnown w.laid s.threads) c.in-Some.is c.requires.reached.known in
    subst (λ t. IsNextOf w.laid s.threads t c.in-Some.known.next) c.if-known-thread.true known.1
