use Rattle.std.proofs.Common.{◌≡◌, [], ◌∷◌, ◌++◌, Ok, Err, Some, None, true, sym, ◌∙◌, subst}
use Rattle.marks.specs.declared.range.Range.{Range}
use Rattle.space_memory_bytes.specs.Numbers.{FillsWith}
use Rattle.space_memory.specs.Sides.{frames_of, top_of}
use Rattle.space_memory.specs.Spaces.{SpaceState}
use Rattle.race_watch.specs.Stands.{AnswersBy}
use Rattle.steps_above_memory.proofs.Leaving.{left_top, some_same, leave_made, leave_raced, leave_refused}
use Rattle.marks.specs.declared.side.Side.TheVariants.{Replay}
use Rattle.space_memory_laws.specs.Changes.{IsLeft}
use Rattle.steps_above_memory.proofs.above.MemoryAbove.leave.Goals as goal

pub returns-in-Err-clause-refused : goal.returns-in-Err-clause-refused
returns-in-Err-clause-refused c = λ frame top.
    let same : c.in-Some.frame ≡ frame = some_same c.in-Some.frame frame (sym c.in-Some.is ∙ (c.top.ensures.top ∙ top)) in
    leave_raced c.args.self.now c.args.thread frame c.requires.in_range top c.in-Err.error c.by.result
    (subst (λ r. AnswersBy c.args.self.now.watch c.args.thread r true (Err c.in-Err.error)) same (subst (AnswersBy c.args.self.now.watch c.args.thread c.in-Some.frame true) c.in-Err.is c.test.ensures))
    c.by.ensures

pub returns-in-Err-leave-clause-refused : goal.returns-in-Err-leave-clause-refused
returns-in-Err-leave-clause-refused c = λ frame top.
    let same : c.in-Some.frame ≡ frame = some_same c.in-Some.frame frame (sym c.in-Some.is ∙ (c.top.ensures.top ∙ top)) in
    leave_refused c.args.self.now c.args.thread frame c.requires.in_range top c.in-Err-leave.refusal c.of.result
    (subst (λ r. AnswersBy c.args.self.now.watch c.args.thread r true (Ok tt)) same (subst (AnswersBy c.args.self.now.watch c.args.thread c.in-Some.frame true) c.in_default.is c.test.ensures))
    ((c.leave.ensures.refused c.in-Err-leave.refusal).0 c.in-Err-leave.is) c.of.ensures

pub returns-in-Ok-clause-left : goal.returns-in-Ok-clause-left
returns-in-Ok-clause-left c =
    let old : SpaceState = c.args.self.now.spaces in
    let new : SpaceState = c.leave.new.self in
    let top : top_of old.sides.replay c.args.thread ≡ Some c.in-Some.frame = sym c.top.ensures.top ∙ c.in-Some.is in
    let same : c.in_default-leave.field-0 ≡ c.in-Some.frame = some_same c.in_default-leave.field-0 c.in-Some.frame
    (sym (left_top (frames_of old.sides.replay c.args.thread)
    (frames_of new.sides.replay c.args.thread) c.in_default-leave.field-0 c.in_default-leave.ensures.left) ∙ top) in
    leave_made c.args.self.now c.args.thread c.in-Some.frame c.requires.in_range top _
    (subst (λ (f : Range). frames_of old.sides.replay c.args.thread ≡ frames_of new.sides.replay c.args.thread ++ f ∷ []) same c.in_default-leave.ensures.left)
    c.in_default-leave.ensures.others
    (λ r k. c.in_default-leave.not-Err r ((c.leave.ensures.refused r).1 k))
    c.leave.ensures.held
    (subst (λ (f : Range). FillsWith f None old.bytes new.bytes) same c.in_default-leave.ensures.dead)
    (subst (AnswersBy c.args.self.now.watch c.args.thread c.in-Some.frame true) c.in_default.is c.test.ensures)
    c.in-Ok.ensures.told

pub returns-in-Ok-clause-spaces : goal.returns-in-Ok-clause-spaces
returns-in-Ok-clause-spaces c =
    let old : SpaceState = c.args.self.now.spaces in
    let new : SpaceState = c.leave.new.self in
    let top : top_of old.sides.replay c.args.thread ≡ Some c.in-Some.frame = sym c.top.ensures.top ∙ c.in-Some.is in
    let same : c.in_default-leave.field-0 ≡ c.in-Some.frame = some_same c.in_default-leave.field-0 c.in-Some.frame (sym (left_top (frames_of old.sides.replay c.args.thread) (frames_of new.sides.replay c.args.thread) c.in_default-leave.field-0 c.in_default-leave.ensures.left) ∙ top) in
    record {
      free = λ r k. c.in_default-leave.not-Err r ((c.leave.ensures.refused r).1 k);
      left = subst (λ (f : Range). IsLeft Replay old new c.args.thread f) same (record {
        frames = c.in_default-leave.ensures.left;
        sides = c.in_default-leave.ensures.others;
        dead = c.in_default-leave.ensures.dead;
        held = c.leave.ensures.held;
      });
    }
