use Rattle.std.proofs.Common.{◌≡◌, refl, subst}
use Rattle.run_events.specs.declared.key.KeyMark.{KeyMark}
use Rattle.log_closure.specs.Events.{In, HasMark, events_of}
use Rattle.log_closure.specs.Predecessors.{next}
use Rattle.log_reference.proofs.Splits.{In-get, holds_more, holds_all}
use Rattle.log_reference.proofs.Equal.{no_mark}
use Rattle.log_reference.proofs.events.lacks.Goals as goal

pub loop-mark-init : goal.loop-mark-init
loop-mark-init c = λ m i. absurd i

pub returns-then-lacks_before-clause-there : goal.returns-then-lacks_before-clause-there
returns-then-lacks_before-clause-there c =
    let ms = c.args.marks.now in
    let (m, is, free) = c.if-lacks_before.ensures.there in
    (m, subst (λ (x : KeyMark). In x ms) is (In-get ms c.loop-mark.mark-index no_mark c.loop-mark-test.true), free)

pub loop-mark-preserved : goal.loop-mark-preserved
loop-mark-preserved c = holds_more (λ n. (m : KeyMark) → n ≡ next m → HasMark (events_of c.args.records.now) m) c.args.marks.now c.loop-mark.mark-index no_mark c.loop-mark-test.true c.loop-mark.invariant c.if-lacks_before.ensures.none

pub returns-clause-none : goal.returns-clause-none
returns-clause-none c = λ m i. holds_all (λ n. (m : KeyMark) → n ≡ next m → HasMark (events_of c.args.records.now) m) c.args.marks.now c.loop-mark.mark-index c.loop-mark-test.false c.loop-mark.invariant (next m) i m refl
