use Rattle.std.proofs.Common.{ℕ, ◌+◌, ◌<◌, ◌≤◌, length, refl, sym, subst}
use Rattle.std.specs.Prelude.{IsSomeAnd, slice_index}
use Rattle.marks.specs.declared.range.Range.{Range}
use Rattle.steps_above_memory.proofs.Tests.{not_both}
use Rattle.recorder_memory.proofs.Frames.{enter_made, enter_refused, top_entered}
use Rattle.recorder_memory.proofs.Marking.{with_spaces}
use Rattle.recorder_memory.proofs.memory.Memory.enter_below.Goals as goal

pub set_args-requires-clause-in_frame : goal.set_args-requires-clause-in_frame
set_args-requires-clause-in_frame c =
    subst (λ o. IsSomeAnd o (λ (f : Range). (i : ℕ) → i < length c.args.offsets.now → slice_index c.args.offsets.now i + slice_index c.args.widths.now i ≤ f.len))
    (sym (top_entered c.args.self.now c.args.self.now c.args.thread c.args.size c.args.offsets.now c.args.widths.now c.args.args.now c.requires.in_range c.requires.widths c.requires.args c.requires.in_frame c.in-Ok.addr c.enter.new.self c.requires.stack c.in-Ok.ensures.entered))
    c.requires.in_frame

pub returns-in-Ok-clause-entered : goal.returns-in-Ok-clause-entered
returns-in-Ok-clause-entered c =
    enter_made c.args.self.now _ c.args.thread c.args.size c.args.offsets.now c.args.widths.now c.args.args.now c.requires.in_range c.requires.widths c.requires.args c.requires.in_frame
    c.in-Ok.addr c.enter.new.self c.requires.stack c.in-Ok.ensures.entered c.in-Ok.ensures.place
    (λ e k. not_both _ _ e c.in-Ok.is ((c.enter.ensures.refused e).1 k))
    c.in-Ok.ensures.zero c.enter.ensures.held c.set_args.ensures.areas c.set_args.ensures.set c.set_args.ensures.rest refl

pub returns-in-Err-clause-refused : goal.returns-in-Err-clause-refused
returns-in-Err-clause-refused c =
    enter_refused c.args.self.now c.args.self.now c.args.thread c.args.size c.args.offsets.now c.args.widths.now c.args.args.now c.requires.in_range c.requires.widths c.requires.args c.requires.in_frame
    c.in-Err.refusal _ ((c.enter.ensures.refused c.in-Err.refusal).0 c.in-Err.is) c.of.ensures

pub returns-in-Err-clause-unchanged : goal.returns-in-Err-clause-unchanged
returns-in-Err-clause-unchanged c = with_spaces c.args.self.now c.enter.new.self _ c.in-Err.ensures.unchanged
