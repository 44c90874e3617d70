use Rattle.std.proofs.Common.{sym, ◌∙◌}
use Rattle.marks.specs.declared.range.Range.{Range}
use Rattle.reference_recorder_acts.proofs.Marked.{few_marks}
use Rattle.reference_recorder_acts.proofs.Entered.{leave_some, left_first, no_ranges}
use Rattle.reference_recorder_acts.proofs.frames.leave.Goals as goal

pub unreachable-requires : goal.unreachable-requires
unreachable-requires c =
    leave_some c.requires.0 c.args.marks.now c.args.thread c.args.side c.requires.1.0 c.requires.1.1
    (sym (c.in_ok-frames.ensures c.requires.0) ∙ (sym c.as_slice.ensures.value ∙ no_ranges c.as_slice.result.now c.in_default.len_below))

pub next_mark-requires : goal.next_mark-requires
next_mark-requires c = let at = c.requires.1.1.at in few_marks c.requires.0 c.args.marks.now at.past at.step

pub returns : goal.returns
returns c = λ w args to.
    let none : Range = record { addr = 0; len = 0 } in
    left_first w c.args.marks.now c.args.thread c.args.side args to c.as_slice.result.now
    (sym (c.in_ok-frames.ensures w) ∙ sym c.as_slice.ensures.value) c.in-len1-up.len_at_least none c.next_mark.result c.next_mark.ensures
