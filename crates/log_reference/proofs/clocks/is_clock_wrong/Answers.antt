use Rattle.std.proofs.Common.{ℕ, ◌+◌, sym, ap, ◌∙◌}
use Rattle.log_closure.specs.Events.{events_of}
use Rattle.log_reference.proofs.Preceding.{greatest_one}
use Rattle.log_reference.proofs.Equal.{not_other}
use Rattle.log_reference.proofs.clocks.is_clock_wrong.Goals as goal

pub returns-clause-none : goal.returns-clause-none
returns-clause-none c = not_other c.from.result (c.from-2.result + 1)
    (λ same (holds, (g, greatest, other)). other (sym c.from.ensures ∙ same ∙ ap (λ (n : ℕ). n + 1) (c.from-2.ensures ∙ greatest_one (events_of c.args.records.now) _ _ g c.greatest_before.ensures greatest)))
