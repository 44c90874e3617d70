use Rattle.space_memory_laws.proofs.laws.loads_below_show_the_run.Goals as goal
use Rattle.space_memory_laws.proofs.Rights.{shows_run}

pub returns : goal.returns
returns c = shows_run
