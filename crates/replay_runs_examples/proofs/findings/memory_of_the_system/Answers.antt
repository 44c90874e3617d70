use Rattle.replay_runs_examples.proofs.findings.memory_of_the_system.Goals as goal
use Rattle.replay_runs_examples.proofs.NamedFindings.{memory_of_the_system-found, memory_of_the_system-beside}

pub returns-clause-found : goal.returns-clause-found
returns-clause-found c = memory_of_the_system-found

pub returns-clause-beside : goal.returns-clause-beside
returns-clause-beside c = memory_of_the_system-beside
