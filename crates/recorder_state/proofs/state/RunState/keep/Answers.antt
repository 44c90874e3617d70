use Rattle.recorder_state.proofs.Ending.{kept}
use Rattle.recorder_state.proofs.state.RunState.keep.Goals as goal

pub returns-clause-reached : goal.returns-clause-reached
returns-clause-reached c = λ w gone. kept w c.args.self.now c.args.thread c.args.next gone
