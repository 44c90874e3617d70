use Rattle.std.proofs.Common.{◌++◌, ◌+◌, ◌-◌, ◌/◌, ap, ◌∙◌, arith}
use Rattle.marks.specs.Ranges.{bytes_of_number}
use Rattle.reference_recorder_acts.proofs.NumberBytes.{number_more}
use Rattle.reference_recorder_acts.proofs.bytes.push_number.Goals as goal

pub loop-place-preserved : goal.loop-place-preserved
loop-place-preserved c =
    let left = c.args.width - c.loop-place._place in
    let rest = c.args.width - (c.loop-place._place + 1) in
    ap (λ bytes. bytes ++ bytes_of_number rest (c.loop-place.rest / 256)) c.in_ok-push.ensures.items
    ∙ number_more c.loop-place.bytes.items left rest c.loop-place.rest (omega arith)
    ∙ c.loop-place.invariant
