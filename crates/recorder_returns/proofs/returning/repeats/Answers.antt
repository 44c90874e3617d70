use Rattle.std.proofs.Common.{true, ◌∙◌}
use Rattle.recorder_returns.proofs.Kept.{same_so}
use Rattle.recorder_returns.proofs.returning.repeats.Goals as goal

pub returns : goal.returns
returns c = λ w past fit follows around cached.
    same_so w fit past follows c.args.thread c.args.state.now.interface _ c.args.func c.args.value c.args.pieces.now _ true around.interface (c.records-records.ensures w past around.shown.book) c.repeats.ensures (cached ∙ c.if-not-cached.false)
