use Rattle.std.proofs.Common.{sym, subst}
use Rattle.whole_runs.specs.Tests.{tests}
use Rattle.recorder_state.specs.Inputs.{world_of}
use Rattle.reference_recorder_findings.specs.declared.finding.Finding.TheVariants.{Breach, Fault}
use Rattle.reference_recorder_findings.specs.Findings.{IsFound}
use Rattle.reference_recorder.specs.Steps.{ComesNext}
use Rattle.reference_recorder.proofs.Going.{breach_ends, found_so}
use Rattle.reference_recorder.proofs.steps.tested.Goals as goal

pub faulted-requires : goal.faulted-requires
faulted-requires c =
    let at = c.requires.at in
    record {
      at = at;
      found = subst (IsFound (tests (world_of c.args.inputs) at.past.run at.step.thread at.step.side at.step.want)) (found_so c.args.first c.in-Some-Fault.field-0 (Fault c.in-Some-Fault.kind) c.in-Some-Fault.is (rw c.in-Some-Fault.is at c.in-Some-Fault.field-0-is)) (c.requires.found at);
    }

pub go_on-requires-clause-to : goal.go_on-requires-clause-to
go_on-requires-clause-to c =
    let at = c.requires.at in
    record {
      at = at;
      passes = subst (IsFound (tests (world_of c.args.inputs) at.past.run at.step.thread at.step.side at.step.want)) c.in-None.is (c.requires.found at);
    }

pub returns-in-Some-Fault : goal.returns-in-Some-Fault
returns-in-Some-Fault c = λ at. c.faulted.ensures (record {
  at = at;
  found = subst (IsFound (tests (world_of c.args.inputs) at.past.run at.step.thread at.step.side at.step.want)) (found_so c.args.first c.in-Some-Fault.field-0 (Fault c.in-Some-Fault.kind) c.in-Some-Fault.is (rw c.in-Some-Fault.is at c.in-Some-Fault.field-0-is)) (c.requires.found at);
})

pub returns-in-Some-Breach : goal.returns-in-Some-Breach
returns-in-Some-Breach c = λ at.
    let w = world_of c.args.inputs in
    subst (ComesNext w c.args.marks.now at.past) (sym c.breached.ensures)
    (breach_ends w c.args.marks.now c.args.thread c.args.side c.args.args.now c.args.want at c.in-Some-Breach.kind c.in-Some-Breach.address c.in-Some-Breach.other
    (subst (IsFound (tests w at.past.run at.step.thread at.step.side at.step.want)) (found_so c.args.first c.in-Some-Breach.field-0 (Breach c.in-Some-Breach.kind c.in-Some-Breach.address c.in-Some-Breach.other) c.in-Some-Breach.is (rw c.in-Some-Breach.is at c.in-Some-Breach.field-0-is)) (c.requires.found at)))

pub returns-in-None : goal.returns-in-None
returns-in-None c = λ at. c.go_on.ensures (record {
  at = at;
  passes = subst (IsFound (tests (world_of c.args.inputs) at.past.run at.step.thread at.step.side at.step.want)) c.in-None.is (c.requires.found at);
})
