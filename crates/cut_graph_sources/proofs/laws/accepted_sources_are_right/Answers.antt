use Rattle.cut_graph_sources.proofs.Accepted.{is_right}
use Rattle.cut_graph_sources.proofs.laws.accepted_sources_are_right.Goals as goal

pub returns : goal.returns
returns c = is_right
