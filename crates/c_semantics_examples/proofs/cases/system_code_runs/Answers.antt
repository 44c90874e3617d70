use Rattle.c_semantics_examples.proofs.Computed.{system_runs, system_no_event, system_not_above}
use Rattle.c_semantics_examples.proofs.cases.system_code_runs.Goals as goal

pub returns-clause-runs : goal.returns-clause-runs
returns-clause-runs c = system_runs

pub returns-clause-no_event : goal.returns-clause-no_event
returns-clause-no_event c = system_no_event

pub returns-clause-not_above : goal.returns-clause-not_above
returns-clause-not_above c = system_not_above
