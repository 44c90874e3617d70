use Rattle.replay_runs_examples.proofs.findings.a_key_that_is_not_in_use.Goals as goal
use Rattle.replay_runs_examples.proofs.NamedFindings.{a_key_that_is_not_in_use-found, a_key_that_is_not_in_use-kept}

pub returns-clause-found : goal.returns-clause-found
returns-clause-found c = a_key_that_is_not_in_use-found

pub returns-clause-kept : goal.returns-clause-kept
returns-clause-kept c = a_key_that_is_not_in_use-kept
