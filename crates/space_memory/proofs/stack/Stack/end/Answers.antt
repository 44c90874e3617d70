use Rattle.std.proofs.Common.{◌≡◌, ◌+◌, ◌-◌, Some, length, slice_get, ap, sym, ◌∙◌, arith}
use Rattle.std.proofs.lemmas.Option.{slice_get_within, get_or_from_slice_get}
use Rattle.marks.specs.declared.range.Range.{Range}
use Rattle.space_memory.specs.StackFrames.{StackState, end_of}
use Rattle.space_memory.proofs.Ends.{end_of_last}
use Rattle.space_memory.proofs.stack.Stack.end.Goals as goal

pub returns-in-Some-clause-end : goal.returns-in-Some-clause-end
returns-in-Some-clause-end c =
    let frames = c.deref.result.now in
    let frame = c.in-Some.frame.now in
    let last : slice_get frames (length frames - 1) ≡ Some frame = sym c.in-Some.ensures.value in
    let within = slice_get_within frames (length frames - 1) frame last in
    let read = get_or_from_slice_get frames (length frames - 1) frame frame last in
    let end = end_of_last c.self.inside.base frames frame (omega arith) in
    sym (end ∙ ap (λ (f : Range). f.addr + f.len) read) ∙ ap (λ fs. end_of c.self.inside.base fs) c.deref.ensures.value ∙ ap (λ (s : StackState). end_of s.base s.frames) c.self.view_is
