use Rattle.std.proofs.Common.{◌≤◌, ◌<◌, ◌++◌, [], length, sym, ap, ◌∙◌, arith}
use Rattle.marks.specs.Places.{thread_count}
use Rattle.recorder_book.specs.Chunks.{chunks_text, rest}
use Rattle.recorder_book.proofs.Parts.{rests_more, rests_none}
use Rattle.reference_recorder_marks.specs.Marks.{past}
use Rattle.reference_recorder_log.specs.Records.{all_of}
use Rattle.reference_recorder_log.proofs.Written.{all_at, all_many}
use Rattle.reference_recorder_log.proofs.log.put_rests.Goals as goal

pub loop-thread-preserved : goal.loop-thread-preserved
loop-thread-preserved c =
    let run = past c.args.marks.now in
    let t = c.loop-thread.thread in
    let lt : t < thread_count = omega (arith, c.loop-thread-test.true) in
    let below : t < length (all_of run) = omega (arith, lt, all_many run) in
    rests_more c.args.chunk t (all_of run) [] c.loop-thread.log.items c.put_thread.new.log.items _ below c.loop-thread.invariant
    (c.in_ok-put_thread.ensures ∙ ap (λ rs. c.loop-thread.log.items ++ chunks_text (rest c.args.chunk t rs)) (sym (all_at run t lt)))

pub returns : goal.returns
returns c =
    let run = past c.args.marks.now in
    let le : length (all_of run) ≤ c.loop-thread.thread = omega (arith, c.loop-thread-test.false, all_many run) in
    rests_none c.args.chunk c.loop-thread.thread (all_of run) c.loop-thread.log.items _ le c.loop-thread.invariant
