use Rattle.std.proofs.Common.{◌≡◌, refl, subst}
use Rattle.run_events.specs.declared.key.KeyMark.{KeyMark}
use Rattle.log_closure.specs.Events.{In, HasMark, events_of}
use Rattle.log_closure.specs.Predecessors.{next}
use Rattle.log_reference.proofs.Splits.{In-get, holds_more, holds_all}
use Rattle.log_reference.proofs.Equal.{no_mark}
use Rattle.log_reference.proofs.clocks.leads_by_key.Goals as goal

pub loop-mark-init : goal.loop-mark-init
loop-mark-init c = λ m i. absurd i

pub returns-then-comes_from-clause-there : goal.returns-then-comes_from-clause-there
returns-then-comes_from-clause-there c =
    let ms = c.args.marks.now in
    let (m, is, free, own) = c.if-comes_from.ensures.there in
    (m, subst (λ (x : KeyMark). In x ms) is (In-get ms c.loop-mark.mark-index no_mark c.loop-mark-test.true), free, own)

pub loop-mark-preserved : goal.loop-mark-preserved
loop-mark-preserved c =
    holds_more (λ n. (m : KeyMark) → n ≡ next m → (HasMark (events_of c.args.before.now) m → ⊥) → In m c.args.own.now → ⊥) c.args.marks.now c.loop-mark.mark-index no_mark c.loop-mark-test.true c.loop-mark.invariant c.if-comes_from.ensures.none

pub returns-clause-none : goal.returns-clause-none
returns-clause-none c = λ m i.
    holds_all (λ n. (m : KeyMark) → n ≡ next m → (HasMark (events_of c.args.before.now) m → ⊥) → In m c.args.own.now → ⊥) c.args.marks.now c.loop-mark.mark-index c.loop-mark-test.false c.loop-mark.invariant (next m) i m refl
