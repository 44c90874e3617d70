use Rattle.replay_runs_examples.proofs.findings.a_stack_that_is_full.Goals as goal
use Rattle.replay_runs_examples.proofs.NamedFindings.{a_stack_that_is_full-found, a_stack_that_is_full-kept}

pub returns-clause-found : goal.returns-clause-found
returns-clause-found c = a_stack_that_is_full-found

pub returns-clause-kept : goal.returns-clause-kept
returns-clause-kept c = a_stack_that_is_full-kept
