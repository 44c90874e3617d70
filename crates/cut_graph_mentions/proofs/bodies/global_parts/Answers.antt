use Rattle.cut_graph_mentions.proofs.Growing.{two}
use Rattle.cut_graph_mentions.proofs.bodies.global_parts.Goals as goal

pub returns : goal.returns
returns c = two c.given.ensures c.unevaluated.ensures
