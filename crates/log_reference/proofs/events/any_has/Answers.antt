use Rattle.std.proofs.Common.{take, sym, subst, ◌∙◌}
use Rattle.log_closure.specs.Events.{In, marks, event_of, events_of}
use Rattle.log_reference.proofs.Splits.{In-split, each_none}
use Rattle.log_reference.proofs.Files.{event_in, each_event, each_of_all}
use Rattle.log_reference.proofs.events.any_has.Goals as goal

pub loop-entry-init : goal.loop-entry-init
loop-entry-init c = each_none (λ before e. In c.args.mark.now (marks e) → ⊥)

pub returns-then-has-clause-there : goal.returns-then-has-clause-there
returns-then-has-clause-there c =
    let rs = c.args.records.now in
    let i = c.loop-entry.entry-index in
    let r = c.entry-item.result in
    (event_of (take i rs) r, event_in rs i r c.loop-entry-test.true c.entry-item.is, subst (In c.args.mark.now) (c.as_slice.ensures ∙ c.unpacked-keys.ensures) c.if-has.ensures.there)

pub loop-entry-preserved : goal.loop-entry-preserved
loop-entry-preserved c =
    each_event (λ before e. In c.args.mark.now (marks e) → ⊥) c.args.records.now c.loop-entry.entry-index c.entry-item.result c.loop-entry-test.true c.entry-item.is c.loop-entry.invariant
    (λ i. c.if-has.ensures.none (subst (In c.args.mark.now) (sym (c.as_slice.ensures ∙ c.unpacked-keys.ensures)) i))

pub returns-clause-none : goal.returns-clause-none
returns-clause-none c = λ (e, i, j).
    let (before, after, is) = In-split e (events_of c.args.records.now) i in
    each_of_all (λ before e. In c.args.mark.now (marks e) → ⊥) c.args.records.now c.loop-entry.entry-index c.loop-entry-test.false c.loop-entry.invariant before e after is j
