use Rattle.std.proofs.Common.{◌≡◌, take, sym, ◌∙◌}
use Rattle.log_closure.specs.Events.{event_of, events_of}
use Rattle.log_reference.proofs.Splits.{In-split, each_none}
use Rattle.log_reference.proofs.Files.{event_in, each_event, each_of_all}
use Rattle.log_reference.proofs.Equal.{same_names, other_names}
use Rattle.log_reference.proofs.events.stands.Goals as goal

pub loop-at-init : goal.loop-at-init
loop-at-init c = each_none (λ before e. e.name ≡ c.args.name → ⊥)

pub returns-then-eq-clause-there : goal.returns-then-eq-clause-there
returns-then-eq-clause-there c =
    let rs = c.args.records.now in
    let i = c.loop-at.at in
    let r = c.index-records-at.result in
    (event_of (take i rs) r, event_in rs i r c.loop-at-test.true c.index-records-at.is, sym c.name_of.ensures ∙ same_names c.name_of.result c.args.name c.if-eq.ensures)

pub loop-at-preserved : goal.loop-at-preserved
loop-at-preserved c =
    each_event (λ before e. e.name ≡ c.args.name → ⊥) c.args.records.now c.loop-at.at c.index-records-at.result c.loop-at-test.true c.index-records-at.is c.loop-at.invariant
    (λ is. other_names c.name_of.result c.args.name c.if-eq.ensures (c.name_of.ensures ∙ is))

pub returns-clause-none : goal.returns-clause-none
returns-clause-none c = λ e i is.
    let (before, after, split) = In-split e (events_of c.args.records.now) i in
    each_of_all (λ before e. e.name ≡ c.args.name → ⊥) c.args.records.now c.loop-at.at c.loop-at-test.false c.loop-at.invariant before e after split is
