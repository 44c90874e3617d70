use Rattle.std.proofs.Common.{List, [], ◌∷◌, ◌++◌, take, sym, ◌∙◌, subst}
use Rattle.std.proofs.lemmas.List.{take_all}
use Rattle.run_events.specs.declared.event.Record.{Record}
use Rattle.log_closure.specs.Events.{LogEvent, event_of, events_of}
use Rattle.log_reference.proofs.Files.{events_more}
use Rattle.log_reference.proofs.Preceding.{IsGreatestOf, max_is, greatest_none, greatest_more, greatest_same, greatest_whole}
use Rattle.log_reference.proofs.clocks.greatest_before.Goals as goal
use Rattle.log_reference.proofs.clocks.greatest_before.Goals.{then-leads, else-leads}

pub loop-at-init : goal.loop-at-init
loop-at-init c = greatest_none (record { name = c.args.name; entry = c.args.entry.now })

pub loop-at-preserved : goal.loop-at-preserved
loop-at-preserved c =
    let f : LogEvent = record { name = c.args.name; entry = c.args.entry.now } in
    let rs = c.args.records.now in
    let i = c.loop-at.at in
    let r = c.index-records-at.result in
    let e = event_of (take i rs) r in
    let prefix = events_of (take i rs) in
    let old = c.loop-at.invariant in
    let g = c.loop-at.greatest in
    let h = c.if-leads.greatest in
    subst (λ (l : List LogEvent). IsGreatestOf f l h) (sym (events_more rs i r c.loop-at-test.true c.index-records-at.is))
    (elim c.if-leads.branch [
      | then-leads w ↦ let (ge, le, which) = max_is r.clock g h (w.greatest-is ∙ w.max-greatest.ensures) in greatest_more f prefix e g h old w.if-leads.ensures.there ge le which
      | else-leads w ↦ subst (IsGreatestOf f (prefix ++ e ∷ [])) (sym w.greatest-is) (greatest_same f prefix e g old w.if-leads.ensures.none)
    ])

pub returns : goal.returns
returns c =
    let f : LogEvent = record { name = c.args.name; entry = c.args.entry.now } in
    greatest_whole (events_of c.args.records.now) f c.loop-at.greatest
    (subst (λ (l : List Record). IsGreatestOf f (events_of l) c.loop-at.greatest) (take_all c.loop-at.at c.args.records.now c.loop-at-test.false) c.loop-at.invariant)
