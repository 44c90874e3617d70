use Rattle.recorder_returns.proofs.Recorded.{index_is}
use Rattle.recorder_returns.proofs.recording.next_index.Goals as goal

pub returns : goal.returns
returns c = λ w past of. index_is w past c.args.thread c.records.result.now (c.records.ensures w past of)
