use Rattle.cut_graph_sources.proofs.Accepted.{with_guards, without_findings, without_text}
use Rattle.cut_graph_sources.proofs.laws.cuts_without_lines_are_accepted.Goals as goal

pub returns-clause-cut : goal.returns-clause-cut
returns-clause-cut c = without_findings

pub returns-clause-guards : goal.returns-clause-guards
returns-clause-guards c = with_guards

pub returns-clause-text : goal.returns-clause-text
returns-clause-text c = without_text
