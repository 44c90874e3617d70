use Rattle.std.proofs.Common.{get_or}
use Rattle.log_closure.specs.Events.{HasMark, events_of}
use Rattle.log_reference.proofs.Splits.{In-get, holds_more, holds_all}
use Rattle.log_reference.proofs.Equal.{no_mark}
use Rattle.log_reference.proofs.events.shares.Goals as goal

pub loop-mark-init : goal.loop-mark-init
loop-mark-init c = λ m i. absurd i

pub returns-then-any_has-clause-there : goal.returns-then-any_has-clause-there
returns-then-any_has-clause-there c =
    let ms = c.args.marks.now in
    let i = c.loop-mark.mark-index in
    (get_or ms i no_mark, In-get ms i no_mark c.loop-mark-test.true, c.if-any_has.ensures.there)

pub loop-mark-preserved : goal.loop-mark-preserved
loop-mark-preserved c = holds_more (λ m. HasMark (events_of c.args.records.now) m → ⊥) c.args.marks.now c.loop-mark.mark-index no_mark c.loop-mark-test.true c.loop-mark.invariant c.if-any_has.ensures.none

pub returns-clause-none : goal.returns-clause-none
returns-clause-none c = holds_all (λ m. HasMark (events_of c.args.records.now) m → ⊥) c.args.marks.now c.loop-mark.mark-index c.loop-mark-test.false c.loop-mark.invariant
