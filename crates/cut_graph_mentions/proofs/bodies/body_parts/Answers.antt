use Rattle.cut_graph_mentions.proofs.Growing.{two}
use Rattle.cut_graph_mentions.proofs.bodies.body_parts.Goals as goal

pub returns : goal.returns
returns c = two c.statement.ensures c.unevaluated.ensures
