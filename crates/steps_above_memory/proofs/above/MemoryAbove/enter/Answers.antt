use Rattle.std.proofs.Common.{◌≡◌, ℕ, ◌+◌, ◌<◌, ◌≤◌, ◌++◌, [], ◌∷◌, length, Some, true, sym, ap, ◌∙◌, subst}
use Rattle.std.specs.Prelude.{IsSomeAnd, slice_index}
use Rattle.marks.specs.declared.range.Range.{Range}
use Rattle.space_memory.specs.declared.sides.Sides.{Sides}
use Rattle.marks.specs.declared.side.Side.TheVariants.{Replay}
use Rattle.space_memory_bytes.specs.Numbers.{FillsWith}
use Rattle.space_memory.specs.Sides.{frames_of, top_of, with_thread}
use Rattle.space_memory.specs.Spaces.{SpaceState, with_side}
use Rattle.race_watch.specs.Stands.{AnswersBy}
use Rattle.steps_above_memory.proofs.Tests.{not_both}
use Rattle.steps_above_memory.proofs.Entering.{top_with, enter_made, enter_full, enter_raced, entered_spaces}
use Rattle.steps_above_memory.proofs.above.MemoryAbove.enter.Goals as goal

pub returns-in-Err-clause-refused : goal.returns-in-Err-clause-refused
returns-in-Err-clause-refused c =
    enter_full c.args.self.now c.args.self.now c.args.thread c.args.size c.args.offsets.now c.args.widths.now c.args.args.now c.requires.in_range c.requires.widths c.requires.args c.requires.in_frame
    c.in-Err.refusal c.of.result ((c.may_enter.ensures.refused c.in-Err.refusal).0 c.in-Err.is) c.of.ensures

pub returns-in-Err-access-clause-refused : goal.returns-in-Err-access-clause-refused
returns-in-Err-access-clause-refused c =
    enter_raced c.args.self.now c.args.self.now c.args.thread c.args.size c.args.offsets.now c.args.widths.now c.args.args.now c.requires.in_range c.requires.widths c.requires.args c.requires.in_frame
    c.in-Err-access.error c.by.result c.in-Ok.addr c.in-Ok.ensures.place (λ e k. not_both _ _ e c.in-Ok.is ((c.may_enter.ensures.refused e).1 k))
    (subst (AnswersBy c.args.self.now.watch c.args.thread (record { addr = c.in-Ok.addr; len = c.args.size }) true) c.in-Err-access.is c.access.ensures.answers)
    c.by.ensures

pub set_args-requires-clause-in_frame : goal.set_args-requires-clause-in_frame
set_args-requires-clause-in_frame c =
    let frame : Range = record { addr = c.in-Ok-enter.field-0; len = c.args.size } in
    let top : top_of c.enter.new.self.sides.replay c.args.thread ≡ Some frame = ap
    (λ (q : Sides). top_of q.replay c.args.thread) c.in-Ok-enter.ensures.entered ∙
    top_with c.args.self.now.spaces.sides.replay c.args.thread
    (frames_of c.args.self.now.spaces.sides.replay c.args.thread) frame c.requires.stack in
    subst (λ o. IsSomeAnd o (λ (f : Range). (i : ℕ) → i < length c.args.offsets.now → slice_index c.args.offsets.now i + slice_index c.args.widths.now i ≤ f.len)) (sym top) c.requires.in_frame

pub unreachable-requires : goal.unreachable-requires
unreachable-requires c = not_both _ _ c.in-Err-enter.field-0 c.in-Ok.is ((c.may_enter.ensures.refused c.in-Err-enter.field-0).1 ((c.enter.ensures.refused c.in-Err-enter.field-0).0 c.in-Err-enter.is))

pub returns-clause-entered : goal.returns-clause-entered
returns-clause-entered c = λ i f values.
    let same : c.in-Ok-enter.field-0 ≡ c.in-Ok.addr = c.in-Ok-enter.ensures.place ∙ sym c.in-Ok.ensures.place in
    let frame : ℕ → Range = λ a. record { addr = a; len = c.args.size } in
    let old : SpaceState = c.args.self.now.spaces in
    enter_made c.args.self.now _ c.args.thread c.args.size c.args.offsets.now c.args.widths.now c.args.args.now c.requires.in_range c.requires.widths c.requires.args c.requires.in_frame
    c.in-Ok.addr c.enter.new.self c.requires.stack c.in-Ok.ensures.place
    (subst (λ a. c.enter.new.self.sides ≡ with_side old.sides Replay (with_thread old.sides.replay c.args.thread (frames_of old.sides.replay c.args.thread ++ frame a ∷ []))) same c.in-Ok-enter.ensures.entered)
    (λ e k. not_both _ _ e c.in-Ok.is ((c.may_enter.ensures.refused e).1 k))
    (subst (λ a. FillsWith (frame a) (Some 0) old.bytes c.enter.new.self.bytes) same c.in-Ok-enter.ensures.zero)
    c.enter.ensures.held c.set_args.ensures.areas c.set_args.ensures.set c.set_args.ensures.rest c.in_default.ensures.told i f values

pub returns-clause-spaces : goal.returns-clause-spaces
returns-clause-spaces c =
    let same : c.in-Ok-enter.field-0 ≡ c.in-Ok.addr = c.in-Ok-enter.ensures.place ∙ sym c.in-Ok.ensures.place in
    let frame : ℕ → Range = λ a. record { addr = a; len = c.args.size } in
    let old : SpaceState = c.args.self.now.spaces in
    entered_spaces old c.enter.new.self c.set_args.new.self c.args.thread c.args.size c.in-Ok.addr c.args.offsets.now c.args.widths.now c.args.args.now c.requires.widths c.requires.args c.requires.in_frame c.requires.stack c.in-Ok.ensures.place
    (subst (λ a. c.enter.new.self.sides ≡ with_side old.sides Replay (with_thread old.sides.replay c.args.thread (frames_of old.sides.replay c.args.thread ++ frame a ∷ []))) same c.in-Ok-enter.ensures.entered)
    (λ e k. not_both _ _ e c.in-Ok.is ((c.may_enter.ensures.refused e).1 k))
    (subst (λ a. FillsWith (frame a) (Some 0) old.bytes c.enter.new.self.bytes) same c.in-Ok-enter.ensures.zero)
    c.enter.ensures.held c.set_args.ensures.areas c.set_args.ensures.set c.set_args.ensures.rest
