use Rattle.r2_cli_outcome.proofs.LeavesLemmas.{later_by}
use Rattle.r2_cli_outcome.proofs.Consequences.{complete}
use Rattle.r2_cli_examples.proofs.ExchangeLemmas.{leaves}
use Rattle.r2_cli_examples.proofs.command.exchange.Goals as goal

pub returns-clause-leaves : goal.returns-clause-leaves
returns-clause-leaves g c =
    leaves _ _ _ _ _ _ _ _ _ _ _ c.requires c.planned-planned.ensures.only c.planned-planned.ensures.answers c.finish.ensures.finishes c.finish.ensures.later

pub returns-clause-complete : goal.returns-clause-complete
returns-clause-complete g c = λ quiet.
    complete _ _ _ _ quiet (leaves _ _ _ _ _ _ _ _ _ _ _ c.requires c.planned-planned.ensures.only c.planned-planned.ensures.answers c.finish.ensures.finishes c.finish.ensures.later)

pub returns-clause-later : goal.returns-clause-later
returns-clause-later g c = later_by _ _ _ _ _ c.planned-planned.ensures.only c.finish.ensures.later
