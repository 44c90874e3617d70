use Rattle.std.proofs.Common.{List, ◌∷◌, ◌++◌, get_or, take, drop, ◌+◌, ap, ◌∙◌}
use Rattle.run_events.specs.declared.key.KeyMark.{KeyMark}
use Rattle.log_closure.specs.Events.{In}
use Rattle.log_reference.proofs.Splits.{In-split, split-in, split_at, each_none, each_at, each_all}
use Rattle.log_reference.proofs.Equal.{no_mark}
use Rattle.log_reference.proofs.marks.repeats.Goals as goal

pub loop-at-init : goal.loop-at-init
loop-at-init c = each_none (λ before m. In m before → ⊥)

pub returns-then-has-clause-there : goal.returns-then-has-clause-there
returns-then-has-clause-there c =
    let ms = c.args.marks.now in
    let m = get_or ms c.loop-at.at no_mark in
    let rest = drop (c.loop-at.at + 1) ms in
    let (prefix, middle, is) = In-split m (take c.loop-at.at ms) c.if-has.ensures.there in
    (m, (prefix, middle, rest, split_at ms c.loop-at.at no_mark c.loop-at-test.true ∙ ap (λ (l : List KeyMark). l ++ m ∷ rest) is))

pub loop-at-preserved : goal.loop-at-preserved
loop-at-preserved c = each_at (λ before m. In m before → ⊥) c.args.marks.now c.loop-at.at no_mark c.loop-at-test.true c.loop-at.invariant c.if-has.ensures.none

pub returns-clause-none : goal.returns-clause-none
returns-clause-none c = λ m (prefix, middle, back, is).
    each_all (λ before m. In m before → ⊥) c.args.marks.now c.loop-at.at c.loop-at-test.false c.loop-at.invariant (prefix ++ m ∷ middle) m back is (split-in prefix m middle)
