use Rattle.std.proofs.Common.{subst}
use Rattle.marks.specs.Ranges.{IsFirstIn}
use Rattle.whole_runs.specs.Below.{IsForbidden}
use Rattle.reference_recorder_marks.specs.Marks.{past}
use Rattle.reference_recorder_ranges.proofs.Scanned.{forbidden_found, none_forbidden}
use Rattle.reference_recorder_ranges.proofs.below.forbidden.Goals as goal

pub returns-in-Some : goal.returns-in-Some
returns-in-Some c = λ w p h.
    forbidden_found w p (past c.args.run.marks.now) h.is.same c.args.thread c.args.write c.args.range c.in-Some.address
    (subst (IsFirstIn c.args.range (IsForbidden w (past c.args.run.marks.now) c.args.thread c.args.write)) c.in-Some.is (c.in_ok-address.ensures w h.is.placed))

pub returns-in-None : goal.returns-in-None
returns-in-None c = λ w p h.
    none_forbidden w p (past c.args.run.marks.now) h.is.same c.args.thread c.args.write c.args.range
    (subst (IsFirstIn c.args.range (IsForbidden w (past c.args.run.marks.now) c.args.thread c.args.write)) c.in-None.is (c.in_ok-address.ensures w h.is.placed))
