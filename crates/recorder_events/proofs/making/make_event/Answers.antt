use Rattle.std.proofs.Common.{refl, arith}
use Rattle.recorder_events.proofs.Results.{on_ok}
use Rattle.recorder_events.proofs.Few.{thread_few, events_few, book_few}
use Rattle.recorder_events.proofs.Recorded.{distinct, in_full_form, event_recorded}
use Rattle.recorder_events.proofs.making.make_event.Goals as goal

pub stamp-requires-clause-thread : goal.stamp-requires-clause-thread
stamp-requires-clause-thread c = let k = c.requires.coming in thread_few _ k.fit k.past k.step c.args.thread k.thread

pub stamp-requires-clause-few : goal.stamp-requires-clause-few
stamp-requires-clause-few c = let k = c.requires.coming in events_few _ k.fit k.past k.step _ k.around.shown.stamps

pub stamp-requires-clause-distinct : goal.stamp-requires-clause-distinct
stamp-requires-clause-distinct c = distinct _ _ _ _ _ c.requires.coming

pub add-requires-clause-form : goal.add-requires-clause-form
add-requires-clause-form c =
    let k = c.requires.coming in
    in_full_form _ _ c.args.thread _ c.args.event k c.in_ok-stamp.stamp c.in_ok-stamp.ensures.keys (thread_few _ k.fit k.past k.step c.args.thread k.thread) c.in_ok-stamp.ensures.ranges c.requires.keys c.requires.event

pub add-requires-clause-few : goal.add-requires-clause-few
add-requires-clause-few c =
    let k = c.requires.coming in
    let small = book_few _ k.fit k.past k.step _ k.follows k.around.shown.book in
    let n = small.events in
    omega (arith, n)

pub add-requires-clause-short : goal.add-requires-clause-short
add-requires-clause-short c =
    let k = c.requires.coming in
    let small = book_few _ k.fit k.past k.step _ k.follows k.around.shown.book in
    let n = small.bytes in
    omega (arith, n)

pub returns : goal.returns
returns c = λ k. on_ok c.add.result
    (λ adds. event_recorded _ _ _ _ _ k c.in_ok-stamp.stamp c.in_ok-stamp.ensures.keys _ c.in_ok-stamp.ensures.stamp c.in_ok-stamp.ensures.counts adds refl)
    c.add.ensures.added
