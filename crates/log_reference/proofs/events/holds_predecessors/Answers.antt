use Rattle.std.proofs.Common.{subst, sym, ◌∙◌}
use Rattle.log_closure.specs.Events.{In}
use Rattle.log_closure.specs.Predecessors.{next}
use Rattle.log_closure.proofs.Meaning.{holds_both, holds_key, holds_thread}
use Rattle.log_reference.proofs.Equal.{anyway, if_not, unless}
use Rattle.log_reference.proofs.events.holds_predecessors.Goals as goal

pub returns-then-follows-clause-there : goal.returns-then-follows-clause-there
returns-then-follows-clause-there c = unless c.lacks.result
    (λ keys. holds_both _ (record { name = c.args.name; entry = c.args.entry.now }) c.if-follows.ensures.there (λ m i. keys m (subst (In (next m)) (sym (c.as_slice.ensures ∙ c.unpacked-keys.ensures)) i)))
    c.lacks.ensures.none

pub returns-then-follows-clause-none : goal.returns-then-follows-clause-none
returns-then-follows-clause-none c = if_not c.lacks.result
    (λ (m, i, free) holds. free (holds_key _ (record { name = c.args.name; entry = c.args.entry.now }) holds m (subst (In (next m)) (c.as_slice.ensures ∙ c.unpacked-keys.ensures) i)))
    c.lacks.ensures.there

pub returns-else-follows-clause-none : goal.returns-else-follows-clause-none
returns-else-follows-clause-none c = anyway c.follows.result (λ holds. c.if-follows.ensures.none (holds_thread _ (record { name = c.args.name; entry = c.args.entry.now }) holds))
