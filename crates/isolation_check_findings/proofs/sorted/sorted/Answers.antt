use Rattle.std.proofs.lemmas.List.Filters.{dedup_is}
use Rattle.isolation_check_findings.specs.contracts.finding.FindingEq.TheImpl.Laws.{laws-law}
use Rattle.isolation_check_findings.specs.contracts.finding.FindingOrd.TheImpl as order
use Rattle.isolation_check_findings.specs.contracts.finding.FindingOrd.TheImpl.Laws.{matches_eq-law, total-law}
use Rattle.isolation_check_findings.specs.contracts.finding.FindingPartialEq.TheImpl as test
use Rattle.isolation_check_findings.proofs.Derived.{equal, lines_first, same}
use Rattle.isolation_check_findings.proofs.InOrder.{in_order}
use Rattle.isolation_check_findings.proofs.sorted.sorted.Goals as goal

pub returns : goal.returns
returns c =
    in_order order.ghosts.cmp total-law test.ghosts.eq laws-law matches_eq-law lines_first equal same
    c.args.found.items c.sort_unstable.new.self.items c.dedup.new.self.items
    c.sort_unstable.ensures.permutation c.sort_unstable.ensures.sorted (dedup_is _ _ _ c.dedup.ensures.filtered)
