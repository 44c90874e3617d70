use Rattle.cut_graph_laws.proofs.Known.{threads_within}
use Rattle.cut_graph_laws.proofs.laws.threads_stay_within.Goals as goal

pub returns : goal.returns
returns c = threads_within
