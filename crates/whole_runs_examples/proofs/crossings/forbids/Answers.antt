use Rattle.whole_runs_examples.proofs.crossings.forbids.Goals as goal
use Rattle.whole_runs_examples.proofs.CrossingScenes.{forbids_writes, forbids_later, forbids_frees}

pub returns-clause-writes : goal.returns-clause-writes
returns-clause-writes c = forbids_writes

pub returns-clause-later : goal.returns-clause-later
returns-clause-later c = forbids_later

pub returns-clause-frees : goal.returns-clause-frees
returns-clause-frees c = forbids_frees
