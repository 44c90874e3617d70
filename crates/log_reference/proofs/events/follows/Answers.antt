use Rattle.std.proofs.Common.{◌-◌, arith}
use Rattle.log_reference.proofs.Equal.{if_false}
use Rattle.log_reference.proofs.events.follows.Goals as goal

pub returns-clause-none : goal.returns-clause-none
returns-clause-none c = if_false c.stands.result
    (λ none holds. let (e, i, is) = holds (c.args.name.index - 1) (omega (arith, c.if-name-eq0.false)) in none e i is)
    c.stands.ensures.none
