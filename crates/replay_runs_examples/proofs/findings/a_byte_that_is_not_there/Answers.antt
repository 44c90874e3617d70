use Rattle.replay_runs_examples.proofs.findings.a_byte_that_is_not_there.Goals as goal
use Rattle.replay_runs_examples.proofs.NamedFindings.{a_byte_that_is_not_there-found, a_byte_that_is_not_there-kept}

pub returns-clause-found : goal.returns-clause-found
returns-clause-found c = a_byte_that_is_not_there-found

pub returns-clause-kept : goal.returns-clause-kept
returns-clause-kept c = a_byte_that_is_not_there-kept
