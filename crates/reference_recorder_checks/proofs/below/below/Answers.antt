use Rattle.std.proofs.Common.{true, false}
use Rattle.marks.specs.declared.side.Side.TheVariants.{System}
use Rattle.marks.specs.Ranges.{range}
use Rattle.c_code.specs.Machine.{frame_of}
use Rattle.replay_runs.specs.Checks.{Done, indirect_check}
use Rattle.whole_runs.specs.World.{interface}
use Rattle.whole_runs.specs.Below.{touch_checks}
use Rattle.whole_runs.specs.Outcomes.{builtin_of}
use Rattle.whole_runs.specs.Tests.{back_checks, checks_below, full_check, is_back, step_checks}
use Rattle.recorder_threads.specs.declared.wants.Want.TheVariants as told
use Rattle.reference_recorder_findings.proofs.Lists.{ok_for}
use Rattle.reference_recorder_checks.proofs.Asking.{told_so}
use Rattle.reference_recorder_checks.proofs.ToldBelow.{calls_back, enters, fails, loads, steps, stores, untested}
use Rattle.reference_recorder_checks.proofs.below.below.Goals as goal

pub returns-in-Turn : goal.returns-in-Turn
returns-in-Turn c = λ w p wanted h a q. untested w p c.args.thread c.args.args.now wanted c.args.want c.in-Turn.is q.told

pub returns-in-Load : goal.returns-in-Load
returns-in-Load c = λ w p wanted h a q.
    ok_for c.accessed.result (touch_checks w p c.args.thread false (range c.in-Load.addr c.in-Load.width) Done) (checks_below w p c.args.thread wanted)
    (loads w p c.args.thread c.args.args.now wanted c.in-Load.addr c.in-Load.width (told_so (told.Load c.in-Load.addr c.in-Load.width) q c.in-Load.is))
    (c.accessed.ensures w p h)

pub returns-in-Store : goal.returns-in-Store
returns-in-Store c = λ w p wanted h a q.
    ok_for c.accessed-in-Store.result (touch_checks w p c.args.thread true (range c.in-Store.addr c.in-Store.width) Done) (checks_below w p c.args.thread wanted)
    (stores w p c.args.thread c.args.args.now wanted c.in-Store.addr c.in-Store.width c.in-Store.value (told_so (told.Store c.in-Store.addr c.in-Store.width c.in-Store.value) q c.in-Store.is))
    (c.accessed-in-Store.ensures w p h)

pub returns-in-Enter : goal.returns-in-Enter
returns-in-Enter c = λ w p wanted h a q.
    ok_for c.enters.result (indirect_check (interface w) c.in-Enter.indirect System c.in-Enter.func (full_check w p c.args.thread c.in-Enter.size)) (checks_below w p c.args.thread wanted)
    (enters w p c.args.thread c.args.args.now wanted c.in-Enter.indirect c.in-Enter.func c.in-Enter.size (told_so (told.Enter c.in-Enter.indirect c.in-Enter.func c.in-Enter.size) q c.in-Enter.is))
    (c.enters.ensures w p h)

pub returns-in-CallBack : goal.returns-in-CallBack
returns-in-CallBack c = λ w p wanted h a q.
    let is = told_so (told.CallBack c.in-CallBack.func c.in-CallBack.size) q c.in-CallBack.is in
    let frame = frame_of w.laid c.in-CallBack.func c.args.args.now in
    ok_for c.calls_back.result (back_checks w p c.args.thread c.in-CallBack.func frame (is_back w p c.in-CallBack.func)) (checks_below w p c.args.thread wanted)
    (calls_back w p c.args.thread c.args.args.now wanted c.in-CallBack.func c.in-CallBack.size is)
    (c.calls_back.ensures w p frame h a is.1.count)

pub returns-in-Step : goal.returns-in-Step
returns-in-Step c = λ w p wanted h a q.
    let is = told_so (told.Step c.in-Step.indirect c.in-Step.func) q c.in-Step.is in
    ok_for c.stepped.result
    (indirect_check (interface w) c.in-Step.indirect System c.in-Step.func (step_checks w p c.args.thread c.in-Step.func c.args.args.now (builtin_of c.in-Step.func)))
    (checks_below w p c.args.thread wanted)
    (steps w p c.args.thread c.args.args.now wanted c.in-Step.indirect c.in-Step.func is)
    (c.stepped.ensures w p h a (q.steps c.in-Step.indirect c.in-Step.func is))

pub returns-in-Fault : goal.returns-in-Fault
returns-in-Fault c = λ w p wanted h a q. fails w p c.args.thread c.args.args.now wanted c.in-Fault.number c.fault.result c.fault.ensures (told_so (told.Fault c.in-Fault.number) q c.in-Fault.is)
