use Rattle.std.proofs.Common.{◌≡◌, get_or, refl, sym, subst}
use Rattle.run_events.specs.declared.key.KeyMark.{KeyMark}
use Rattle.log_closure.specs.Events.{In}
use Rattle.log_reference.proofs.Splits.{In-get, holds_more, holds_all}
use Rattle.log_reference.proofs.Equal.{no_mark, same_marks, other_marks}
use Rattle.log_reference.proofs.marks.has.Goals as goal

pub loop-other-init : goal.loop-other-init
loop-other-init c = λ m i. absurd i

pub returns-then-eq-clause-there : goal.returns-then-eq-clause-there
returns-then-eq-clause-there c =
    let at = get_or c.args.marks.now c.loop-other.other-index no_mark in
    subst (λ (m : KeyMark). In m c.args.marks.now) (same_marks at c.args.mark.now c.if-eq.ensures) (In-get c.args.marks.now c.loop-other.other-index no_mark c.loop-other-test.true)

pub loop-other-preserved : goal.loop-other-preserved
loop-other-preserved c =
    let at = get_or c.args.marks.now c.loop-other.other-index no_mark in
    holds_more (λ m. c.args.mark.now ≡ m → ⊥) c.args.marks.now c.loop-other.other-index no_mark c.loop-other-test.true c.loop-other.invariant (λ e. other_marks at c.args.mark.now c.if-eq.ensures (sym e))

pub returns-clause-none : goal.returns-clause-none
returns-clause-none c = λ i. holds_all (λ m. c.args.mark.now ≡ m → ⊥) c.args.marks.now c.loop-other.other-index c.loop-other-test.false c.loop-other.invariant c.args.mark.now i refl
