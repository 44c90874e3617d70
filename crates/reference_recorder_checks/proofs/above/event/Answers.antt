use Rattle.std.proofs.Common.{[]}
use Rattle.marks.specs.Wants.{Calls, Frees}
use Rattle.replay_runs.specs.Checks.{checks}
use Rattle.whole_runs.specs.World.{begin, interface}
use Rattle.whole_runs.specs.Sides.{seen}
use Rattle.whole_runs.specs.Tests.{checks_above, give_checks, ret_checks}
use Rattle.recorder_threads.specs.declared.wants.Want.TheVariants as told
use Rattle.reference_recorder_given.specs.Given.{shown}
use Rattle.reference_recorder_findings.proofs.Lists.{ok_for}
use Rattle.reference_recorder_checks.proofs.Asking.{told_so}
use Rattle.reference_recorder_checks.proofs.ToldAbove.{allocs, calls, calls_back, frees, gives, returns_to, up_returns}
use Rattle.reference_recorder_checks.proofs.above.event.Goals as goal

pub returns-in-Free : goal.returns-in-Free
returns-in-Free c = λ w p wanted h a q v.
    ok_for c.freed.result (checks (interface w) (begin w) (seen p) c.args.thread (Frees c.in-Free.addr)) (checks_above w p c.args.thread wanted)
    (frees w p c.args.thread c.args.args.now wanted c.in-Free.addr (told_so (told.Free c.in-Free.addr) q c.in-Free.is))
    (c.freed.ensures w p h)

pub returns-in-Call : goal.returns-in-Call
returns-in-Call c = λ w p wanted h a q v.
    ok_for c.called.result (checks (interface w) (begin w) (seen p) c.args.thread (Calls c.in-Call.indirect c.in-Call.func c.args.args.now)) (checks_above w p c.args.thread wanted)
    (calls w p c.args.thread c.args.args.now wanted c.in-Call.indirect c.in-Call.func (told_so (told.Call c.in-Call.indirect c.in-Call.func) q c.in-Call.is))
    (c.called.ensures w p h a)

pub returns-in-Give : goal.returns-in-Give
returns-in-Give c = λ w p wanted h a q v.
    ok_for c.gives.result (give_checks w p c.in-Give.func c.args.args.now (shown c.args.given)) (checks_above w p c.args.thread wanted)
    (gives w p c.args.thread c.args.args.now wanted c.in-Give.func (shown c.args.given) (q.gives c.in-Give.func) (told_so (told.Give c.in-Give.func) q c.in-Give.is))
    (c.gives.ensures w p h a)

pub returns-in-Return : goal.returns-in-Return
returns-in-Return c = λ w p wanted h a q v.
    ok_for c.returns.result (ret_checks w p c.in-Return.func c.args.args.now c.in-Return.result []) (checks_above w p c.args.thread wanted)
    (returns_to w p c.args.thread c.args.args.now wanted c.in-Return.func c.in-Return.result (told_so (told.Return c.in-Return.func c.in-Return.result) q c.in-Return.is))
    (c.returns.ensures w p h a)

pub returns-in-Alloc : goal.returns-in-Alloc
returns-in-Alloc c = λ w p wanted h a q v. allocs w p c.args.thread c.args.args.now wanted c.in-Alloc.size (told_so (told.Alloc c.in-Alloc.size) q c.in-Alloc.is)

pub returns-in-CallBack : goal.returns-in-CallBack
returns-in-CallBack c = λ w p wanted h a q v. calls_back w p c.args.thread c.args.args.now wanted c.in-CallBack.func c.in-CallBack.size (told_so (told.CallBack c.in-CallBack.func c.in-CallBack.size) q c.in-CallBack.is)

pub returns-in-UpReturn : goal.returns-in-UpReturn
returns-in-UpReturn c = λ w p wanted h a q v. up_returns w p c.args.thread c.args.args.now wanted c.in-UpReturn.result (told_so (told.UpReturn c.in-UpReturn.result) q c.in-UpReturn.is)
