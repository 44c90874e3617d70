use Rattle.cut_graph_laws_examples.proofs.Acceptance.{accepted, of_source}
use Rattle.cut_graph_laws_examples.proofs.scenes.cut_is_accepted.Goals as goal

pub returns-clause-of_source : goal.returns-clause-of_source
returns-clause-of_source c = of_source

pub returns-clause-accepted : goal.returns-clause-accepted
returns-clause-accepted c = accepted
