use Rattle.std.proofs.Common.{sym, ◌∙◌, subst}
use Rattle.run_events.specs.declared.key.KeyMark.{KeyMark}
use Rattle.log_closure.specs.Events.{In, HasMark, events_of}
use Rattle.log_reference.proofs.Equal.{if_not, anyway, next_one}
use Rattle.log_reference.proofs.clocks.comes_from.Goals as goal

pub returns-then-has-clause-none : goal.returns-then-has-clause-none
returns-then-has-clause-none c = if_not c.any_has.result
    (λ has m is free i. free (subst (HasMark (events_of c.args.before.now)) (next_one c.in-Some.earlier m (sym c.in-Some.ensures ∙ is)) has))
    c.any_has.ensures.there

pub returns-else-has-clause-none : goal.returns-else-has-clause-none
returns-else-has-clause-none c = anyway c.has.result
    (λ m is free i. c.if-has.ensures.none (subst (λ (x : KeyMark). In x c.args.own.now) (sym (next_one c.in-Some.earlier m (sym c.in-Some.ensures ∙ is))) i))
