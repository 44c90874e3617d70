use Rattle.replay_runs_examples.proofs.findings.a_byte_that_waits.Goals as goal
use Rattle.replay_runs_examples.proofs.NamedFindings.{a_byte_that_waits-found, a_byte_that_waits-kept}

pub returns-clause-found : goal.returns-clause-found
returns-clause-found c = a_byte_that_waits-found

pub returns-clause-kept : goal.returns-clause-kept
returns-clause-kept c = a_byte_that_waits-kept
