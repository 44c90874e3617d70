use Rattle.whole_runs_memory.proofs.returned.lacking_keys_are_found.Goals as goal
use Rattle.whole_runs_memory.proofs.Long.{lacking}

pub returns : goal.returns
returns c = lacking
