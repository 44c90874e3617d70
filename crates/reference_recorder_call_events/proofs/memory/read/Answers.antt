use Rattle.std.proofs.Common.{◌≡◌, ◌+◌, length, sym, ap, ◌∙◌, subst, arith}
use Rattle.marks.specs.Ranges.{are_bytes}
use Rattle.reference_recorder_call_events.specs.Memory.{IsRead, memory_of}
use Rattle.reference_recorder_call_events.proofs.Loops.{Show, all_bytes, one_byte, one_count}
use Rattle.reference_recorder_call_events.proofs.memory.read.Goals as goal

pub loop-offset-preserved : goal.loop-offset-preserved
loop-offset-preserved c =
    let memory = memory_of c.args.memory in
    let bytes = c.loop-offset.bytes.items in
    let so_far = c.loop-offset.invariant in
    record {
      counted = ap length c.in_ok-push.ensures.items ∙ one_count memory c.args.at bytes c.loop-offset.offset so_far.counted so_far.shown c.byte_after-byte.result;
      shown = subst (λ bs. Show memory c.args.at bs (c.loop-offset.offset + 1)) (sym c.in_ok-push.ensures.items)
          (one_byte memory c.args.at bytes c.loop-offset.offset so_far.counted so_far.shown c.byte_after-byte.result c.byte_after-byte.ensures);
    }

pub returns : goal.returns
returns c =
    let memory = memory_of c.args.memory in
    let so_far = c.loop-offset.invariant in
    let all : c.loop-offset.offset ≡ c.args.count = omega arith in
    subst (IsRead memory c.args.at c.args.count) (sym c.from.ensures)
    (subst (λ n. IsRead memory c.args.at n c.loop-offset.bytes.items) all
    (all_bytes memory c.args.at c.loop-offset.bytes.items c.loop-offset.offset so_far.counted so_far.shown (ap are_bytes (sym c.deref.ensures.value) ∙ c.check.ensures)))
