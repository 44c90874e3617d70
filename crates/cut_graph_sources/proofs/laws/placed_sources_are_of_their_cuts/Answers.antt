use Rattle.cut_graph_sources.proofs.Cuts.{laid_out}
use Rattle.cut_graph_sources.proofs.Accepted.{placed_as}
use Rattle.cut_graph_sources.proofs.laws.placed_sources_are_of_their_cuts.Goals as goal

pub returns-clause-right : goal.returns-clause-right
returns-clause-right c = laid_out

pub returns-clause-accepted : goal.returns-clause-accepted
returns-clause-accepted c = placed_as
