use Rattle.std.proofs.Common.{arith}
use Rattle.cut_graph_laws.proofs.laws.cuts_without_findings_are_accepted.Goals as goal

pub returns : goal.returns
returns c cut are x f = let none = (are.exact x).1 f in absurd (omega (arith, none.1))
