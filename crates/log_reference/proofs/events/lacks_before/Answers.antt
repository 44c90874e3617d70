use Rattle.std.proofs.Common.{sym, ◌∙◌, subst}
use Rattle.log_closure.specs.Events.{HasMark, events_of}
use Rattle.log_reference.proofs.Equal.{if_not, next_one}
use Rattle.log_reference.proofs.events.lacks_before.Goals as goal

pub returns-in-Some-clause-none : goal.returns-in-Some-clause-none
returns-in-Some-clause-none c = if_not c.any_has.result
    (λ has m is. subst (HasMark (events_of c.args.records.now)) (next_one c.in-Some.earlier m (sym c.in-Some.ensures ∙ is)) has)
    c.any_has.ensures.there
