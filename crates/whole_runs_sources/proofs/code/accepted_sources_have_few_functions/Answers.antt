use Rattle.whole_runs_sources.proofs.Few.{few_functions}
use Rattle.whole_runs_sources.proofs.code.accepted_sources_have_few_functions.Goals as goal

pub returns : goal.returns
returns c = few_functions
