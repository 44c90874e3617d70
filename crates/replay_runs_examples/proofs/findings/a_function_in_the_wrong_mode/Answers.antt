use Rattle.replay_runs_examples.proofs.findings.a_function_in_the_wrong_mode.Goals as goal
use Rattle.replay_runs_examples.proofs.NamedFindings.{a_function_in_the_wrong_mode-entered, a_function_in_the_wrong_mode-registered, a_function_in_the_wrong_mode-called, a_function_in_the_wrong_mode-kept}

pub returns-clause-entered : goal.returns-clause-entered
returns-clause-entered c = a_function_in_the_wrong_mode-entered

pub returns-clause-registered : goal.returns-clause-registered
returns-clause-registered c = a_function_in_the_wrong_mode-registered

pub returns-clause-called : goal.returns-clause-called
returns-clause-called c = a_function_in_the_wrong_mode-called

pub returns-clause-kept : goal.returns-clause-kept
returns-clause-kept c = a_function_in_the_wrong_mode-kept
