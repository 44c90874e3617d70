use Rattle.cut_graph_sources.proofs.Cuts.{is_cut}
use Rattle.cut_graph_sources.proofs.laws.cuts_are_of_their_sources.Goals as goal

pub returns : goal.returns
returns c = is_cut
