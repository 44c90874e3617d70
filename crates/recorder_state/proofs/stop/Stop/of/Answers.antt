use Rattle.std.proofs.Common.{sym, subst}
use Rattle.steps_above_memory.specs.Refusals.{IsFound}
use Rattle.whole_runs.specs.Tests.{tests}
use Rattle.whole_runs.specs.declared.ending.Ending.TheVariants as ending
use Rattle.recorder_state.specs.Ends.{IsEnded}
use Rattle.recorder_state.proofs.Broken.{breaks, faults}
use Rattle.recorder_state.proofs.stop.Stop.of.Goals as goal

pub returns-in-Fault : goal.returns-in-Fault
returns-in-Fault c = λ w s h.
    subst (IsEnded w s) (sym c.fault_end.ensures)
    (faults w s c.args.thread c.args.side h.at c.in-Fault.kind (subst (IsFound (tests w h.at.past c.args.thread c.args.side h.at.step.want)) c.in-Fault.is h.found))

pub returns-in-Breach : goal.returns-in-Breach
returns-in-Breach c = λ w s h.
    subst (λ n. IsEnded w s (ending.Breach n c.args.thread c.in-Breach.addr c.in-Breach.other)) (sym c.number.ensures)
    (breaks w s c.args.thread c.args.side h.at c.in-Breach.kind c.in-Breach.addr c.in-Breach.other (subst (IsFound (tests w h.at.past c.args.thread c.args.side h.at.step.want)) c.in-Breach.is h.found))
