use Rattle.std.proofs.lemmas.Result.{IfOk-weaker}
use Rattle.cut_graph_mentions.proofs.Growing.{finished}
use Rattle.cut_graph_mentions.proofs.bodies.in_global.Goals as goal

pub returns : goal.returns
returns c = IfOk-weaker c.finish.result _ _ (λ s e. finished s c.new-found.ensures c.global_parts.ensures e) c.finish.ensures
