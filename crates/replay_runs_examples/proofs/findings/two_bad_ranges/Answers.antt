use Rattle.replay_runs_examples.proofs.findings.two_bad_ranges.Goals as goal
use Rattle.replay_runs_examples.proofs.NamedFindings.{two_bad_ranges-first, two_bad_ranges-second, two_bad_ranges-written, two_bad_ranges-kept}

pub returns-clause-first : goal.returns-clause-first
returns-clause-first c = two_bad_ranges-first

pub returns-clause-second : goal.returns-clause-second
returns-clause-second c = two_bad_ranges-second

pub returns-clause-written : goal.returns-clause-written
returns-clause-written c = two_bad_ranges-written

pub returns-clause-kept : goal.returns-clause-kept
returns-clause-kept c = two_bad_ranges-kept
