use Rattle.std.proofs.Common.{[], true, false}
use Rattle.marks.specs.Ranges.{range}
use Rattle.marks.specs.Wants.{Enters}
use Rattle.c_code.specs.Machine.{frame_of}
use Rattle.replay_runs.specs.Checks.{Done, checks, range_checks}
use Rattle.whole_runs.specs.World.{begin, interface}
use Rattle.whole_runs.specs.Sides.{seen}
use Rattle.whole_runs.specs.Tests.{checks_above}
use Rattle.recorder_threads.specs.declared.wants.Want.TheVariants as told
use Rattle.reference_recorder_findings.proofs.Lists.{ok_for}
use Rattle.reference_recorder_checks.proofs.Asking.{told_so}
use Rattle.reference_recorder_checks.proofs.ToldAbove.{enters, fails, leaves, loads, steps, stores, turns}
use Rattle.reference_recorder_checks.proofs.above.above.Goals as goal

pub returns-in-Turn : goal.returns-in-Turn
returns-in-Turn c = λ w p wanted h a q. turns w p c.args.thread c.args.args.now wanted (told_so told.Turn q c.in-Turn.is)

pub returns-in-Load : goal.returns-in-Load
returns-in-Load c = λ w p wanted h a q.
    ok_for c.accessed.result (range_checks (begin w) (seen p) c.args.thread false [] (range c.in-Load.addr c.in-Load.width) Done) (checks_above w p c.args.thread wanted)
    (loads w p c.args.thread c.args.args.now wanted c.in-Load.addr c.in-Load.width (told_so (told.Load c.in-Load.addr c.in-Load.width) q c.in-Load.is))
    (c.accessed.ensures w p h)

pub returns-in-Store : goal.returns-in-Store
returns-in-Store c = λ w p wanted h a q.
    ok_for c.accessed-in-Store.result (range_checks (begin w) (seen p) c.args.thread true [] (range c.in-Store.addr c.in-Store.width) Done) (checks_above w p c.args.thread wanted)
    (stores w p c.args.thread c.args.args.now wanted c.in-Store.addr c.in-Store.width c.in-Store.value (told_so (told.Store c.in-Store.addr c.in-Store.width c.in-Store.value) q c.in-Store.is))
    (c.accessed-in-Store.ensures w p h)

pub returns-in-Enter : goal.returns-in-Enter
returns-in-Enter c = λ w p wanted h a q.
    let is = told_so (told.Enter c.in-Enter.indirect c.in-Enter.func c.in-Enter.size) q c.in-Enter.is in
    let frame = frame_of w.laid c.in-Enter.func c.args.args.now in
    ok_for c.enters.result (checks (interface w) (begin w) (seen p) c.args.thread (Enters c.in-Enter.indirect c.in-Enter.func c.args.args.now frame)) (checks_above w p c.args.thread wanted)
    (enters w p c.args.thread c.args.args.now wanted c.in-Enter.indirect c.in-Enter.func c.in-Enter.size is)
    (c.enters.ensures w p c.args.args.now frame h is.1.count)

pub returns-in-Leave : goal.returns-in-Leave
returns-in-Leave c = λ w p wanted h a q.
    let is = told_so told.Leave q c.in-Leave.is in
    ok_for c.left.result (range_checks (begin w) (seen p) c.args.thread true [] (range is.0 is.1) Done) (checks_above w p c.args.thread wanted)
    (leaves w p c.args.thread c.args.args.now wanted is.0 is.1 is.2)
    (c.left.ensures w p is.0 is.1 h (q.leaves is.0 is.1 is.2))

pub returns-in-Step : goal.returns-in-Step
returns-in-Step c = λ w p wanted h a q. steps w p c.args.thread c.args.args.now wanted c.in-Step.indirect c.in-Step.func c.stepped.result c.stepped.ensures (told_so (told.Step c.in-Step.indirect c.in-Step.func) q c.in-Step.is)

pub returns-in-Fault : goal.returns-in-Fault
returns-in-Fault c = λ w p wanted h a q. fails w p c.args.thread c.args.args.now wanted c.in-Fault.number c.fault.result c.fault.ensures (told_so (told.Fault c.in-Fault.number) q c.in-Fault.is)
