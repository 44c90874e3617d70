use Rattle.std.proofs.Common.{⊎_elim, sym, subst, ◌∙◌}
use Rattle.run_events.specs.declared.key.KeyMark.{KeyMark}
use Rattle.std.proofs.Common.{List}
use Rattle.log_closure.specs.Events.{In}
use Rattle.log_closure.specs.Wrong.{StandsTwice}
use Rattle.log_reference.proofs.Equal.{if_false}
use Rattle.log_reference.proofs.events.is_twice.Goals as goal

pub returns-else-shares-clause-none : goal.returns-else-shares-clause-none
returns-else-shares-clause-none c =
    let keys = sym (c.as_slice-marks.ensures ∙ c.unpacked-keys.ensures) in
    if_false c.repeats.result
    (λ none (m, how). ⊎_elim
    (λ (i, h). c.if-shares.ensures.none m (subst (In m) keys i) h)
    (λ twice. none m (subst (λ (l : List KeyMark). StandsTwice m l) keys twice))
    how)
    c.repeats.ensures.none
