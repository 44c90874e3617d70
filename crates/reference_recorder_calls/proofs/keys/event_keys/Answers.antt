use Rattle.std.proofs.Common.{false, [], None}
use Rattle.marks.specs.Marks.{NoRegion}
use Rattle.reference_recorder_marks.specs.Marks.{past}
use Rattle.reference_recorder_calls.proofs.Keyed.{alloc_is, call_is, end_is, free_is, ret_is, stop_is, up_is}
use Rattle.reference_recorder_calls.proofs.keys.event_keys.Goals as goal

-- where a kind of event has parts on which its keys don't depend, any serve

pub returns-in_ok-called-in-Call : goal.returns-in_ok-called-in-Call
returns-in_ok-called-in-Call c = rw c.in-Call.is (call_is (past c.args.marks.now) c.args.thread c.args.done.now _ _ _ [] [] _ c.in_ok-called-in-Call.ensures)

pub returns-in_ok-returned-in-Ret : goal.returns-in_ok-returned-in-Ret
returns-in_ok-returned-in-Ret c = rw c.in-Ret.is (ret_is (past c.args.marks.now) c.args.thread c.args.done.now _ _ _ _ false [] NoRegion c.in_ok-returned-in-Ret.ensures)

pub returns-in_ok-back-in-Up : goal.returns-in_ok-back-in-Up
returns-in_ok-back-in-Up c = rw c.in-Up.is (up_is (past c.args.marks.now) c.args.thread c.args.done.now _ _ [] c.in_ok-back-in-Up.ensures)

pub returns-in_ok-ended-in-UpRet : goal.returns-in_ok-ended-in-UpRet
returns-in_ok-ended-in-UpRet c = rw c.in-UpRet.is (end_is (past c.args.marks.now) c.args.thread c.args.done.now _ 0 0 c.in_ok-ended-in-UpRet.ensures)

pub returns-in_ok-taken-in-Alloc : goal.returns-in_ok-taken-in-Alloc
returns-in_ok-taken-in-Alloc c = rw c.in-Alloc.is (alloc_is (past c.args.marks.now) c.args.thread c.args.done.now _ 0 0 c.in_ok-taken-in-Alloc.ensures)

pub returns-in_ok-freed-in-Free : goal.returns-in_ok-freed-in-Free
returns-in_ok-freed-in-Free c = rw c.in-Free.is (free_is (past c.args.marks.now) c.args.thread c.args.done.now _ 0 0 c.in_ok-freed-in-Free.ensures)

pub returns-in-Stop : goal.returns-in-Stop
returns-in-Stop c = rw c.in-Stop.is (stop_is (past c.args.marks.now) c.args.thread c.args.done.now _ None c.new-none.ensures.items)
