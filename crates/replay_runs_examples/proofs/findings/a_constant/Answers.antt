use Rattle.replay_runs_examples.proofs.findings.a_constant.Goals as goal
use Rattle.replay_runs_examples.proofs.NamedFindings.{a_constant-found, a_constant-read, a_constant-kept}

pub returns-clause-found : goal.returns-clause-found
returns-clause-found c = a_constant-found

pub returns-clause-read : goal.returns-clause-read
returns-clause-read c = a_constant-read

pub returns-clause-kept : goal.returns-clause-kept
returns-clause-kept c = a_constant-kept
