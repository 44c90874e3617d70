use Rattle.std.proofs.Common.{sym, ◌∙◌, subst, arith}
use Rattle.std.proofs.lemmas.Option.{get_or_from_slice_get, slice_get_within}
use Rattle.run_events.specs.declared.event.Record.{Record}
use Rattle.steps_above_interface.specs.Returns.{HasReturn}
use Rattle.steps_above_interface.specs.Stands.{AnswersLast}
use Rattle.steps_above_interface.proofs.Returned.{none_repeats, some_repeats}
use Rattle.steps_above_interface.proofs.state.InterfaceState.repeats.Goals as goal

pub returns-in_default : goal.returns-in_default
returns-in_default c =
    none_repeats c.args.self.now c.args.records.now c.args.thread c.args.func c.args.value c.args.pieces.now
    (subst (AnswersLast c.args.self.now c.args.thread c.args.func) c.in_default.is c.last_return.ensures)

pub returns-in-Some-get : goal.returns-in-Some-get
returns-in-Some-get c =
    some_repeats c.args.self.now c.args.records.now c.args.thread c.args.func c.args.value c.args.pieces.now c.in-Some.index c.is_return.result
    (subst (AnswersLast c.args.self.now c.args.thread c.args.func) c.in-Some.is c.last_return.ensures)
    (λ r gave at h. c.is_return.ensures gave
    (subst (λ (q : Record). HasReturn q.event gave) (sym (c.in-Some-get.ensures.lookup.1 ∙ get_or_from_slice_get c.args.records.now c.in-Some.index r _ at)) h))

pub returns-in-None : goal.returns-in-None
returns-in-None c =
    some_repeats c.args.self.now c.args.records.now c.args.thread c.args.func c.args.value c.args.pieces.now c.in-Some.index _
    (subst (AnswersLast c.args.self.now c.args.thread c.args.func) c.in-Some.is c.last_return.ensures)
    (λ r gave at h. absurd (omega (arith, slice_get_within c.args.records.now c.in-Some.index r at, c.in-None.ensures.lookup.3)))
