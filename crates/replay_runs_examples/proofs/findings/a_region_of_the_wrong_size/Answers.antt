use Rattle.replay_runs_examples.proofs.findings.a_region_of_the_wrong_size.Goals as goal
use Rattle.replay_runs_examples.proofs.NamedFindings.{a_region_of_the_wrong_size-piece, a_region_of_the_wrong_size-used, a_region_of_the_wrong_size-past, a_region_of_the_wrong_size-committed, a_region_of_the_wrong_size-whole, a_region_of_the_wrong_size-unchanged, a_region_of_the_wrong_size-kept}

pub returns-clause-piece : goal.returns-clause-piece
returns-clause-piece c = a_region_of_the_wrong_size-piece

pub returns-clause-used : goal.returns-clause-used
returns-clause-used c = a_region_of_the_wrong_size-used

pub returns-clause-past : goal.returns-clause-past
returns-clause-past c = a_region_of_the_wrong_size-past

pub returns-clause-committed : goal.returns-clause-committed
returns-clause-committed c = a_region_of_the_wrong_size-committed

pub returns-clause-whole : goal.returns-clause-whole
returns-clause-whole c = a_region_of_the_wrong_size-whole

pub returns-clause-unchanged : goal.returns-clause-unchanged
returns-clause-unchanged c = a_region_of_the_wrong_size-unchanged

pub returns-clause-kept : goal.returns-clause-kept
returns-clause-kept c = a_region_of_the_wrong_size-kept
