use Rattle.std.proofs.Common.{arith}
use Rattle.reference_recorder_threads.proofs.Bytes.{room}
use Rattle.reference_recorder_threads.proofs.numbers.+number_of.Goals as goal

pub overflow_mul-above : goal.overflow_mul-above
overflow_mul-above t c =
    let more = room c.args.bytes.now c.number_of-above.result c.in-len1-up.len_at_least c.requires c.number_of-above.ensures.below in
    omega (arith, more)

pub overflow_add-result : goal.overflow_add-result
overflow_add-result t c =
    let more = room c.args.bytes.now c.number_of-above.result c.in-len1-up.len_at_least c.requires c.number_of-above.ensures.below in
    omega (arith, more)
