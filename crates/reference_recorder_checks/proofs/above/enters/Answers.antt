use Rattle.std.proofs.Common.{ℕ, length, sym, subst}
use Rattle.marks.specs.declared.side.Side.TheVariants.{Replay}
use Rattle.marks.specs.Wants.{Enters}
use Rattle.replay_runs.specs.Checks.{checks}
use Rattle.whole_runs.specs.World.{begin, interface}
use Rattle.whole_runs.specs.Sides.{seen}
use Rattle.reference_recorder_findings.specs.Findings.{IsFound}
use Rattle.reference_recorder_findings.proofs.Lists.{ok_for}
use Rattle.reference_recorder_uses.specs.Checks.{frame_checks}
use Rattle.reference_recorder_checks.proofs.Modes.{rightly, wrongly}
use Rattle.reference_recorder_checks.proofs.above.enters.Goals as goal

pub returns-in-Some : goal.returns-in-Some
returns-in-Some c = λ w p args bytes h is.
    wrongly (interface w) Replay c.args.through_pointer c.args.func (frame_checks (begin w) (seen p) c.args.thread (length bytes)) c.in-Some.found (c.in-Some.ensures w h.is.placed)

pub returns : goal.returns
returns c = λ w p args bytes h is.
    ok_for c.entered.result (frame_checks (begin w) (seen p) c.args.thread c.args.size)
    (checks (interface w) (begin w) (seen p) c.args.thread (Enters c.args.through_pointer c.args.func args bytes))
    (λ o found. rightly (interface w) Replay c.args.through_pointer c.args.func (frame_checks (begin w) (seen p) c.args.thread (length bytes)) (c.in_default.ensures w h.is.placed) o
    (subst (λ (n : ℕ). IsFound (frame_checks (begin w) (seen p) c.args.thread n) o) (sym is) found))
    (c.entered.ensures w p h.is)
