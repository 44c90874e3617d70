use Rattle.r2_cli_outcome.proofs.LeavesLemmas.{later_by}
use Rattle.r2_cli_outcome.proofs.Consequences.{complete, decided}
use Rattle.r2_cli.proofs.CommandLemmas.{one_outcome, inputs_decide}
use Rattle.r2_cli.proofs.CauseLemmas.{is_caused}
use Rattle.r2_cli.proofs.RunLemmas.{leaves, names_stay}
use Rattle.r2_cli.proofs.running.run.Goals as goal

pub returns-clause-one_outcome : goal.returns-clause-one_outcome
returns-clause-one_outcome g c = one_outcome _

pub returns-clause-inputs : goal.returns-clause-inputs
returns-clause-inputs g c = inputs_decide _

pub returns-clause-leaves : goal.returns-clause-leaves
returns-clause-leaves g c = leaves _ _ _ _ _ _ _ _ c.planned-planned.ensures.only c.planned-planned.ensures.planned c.finish.ensures.finishes c.finish.ensures.later

pub returns-clause-decided : goal.returns-clause-decided
returns-clause-decided g c = λ r w m. decided _ _ _ _ r w m (leaves _ _ _ _ _ _ _ _ c.planned-planned.ensures.only c.planned-planned.ensures.planned c.finish.ensures.finishes c.finish.ensures.later)

pub returns-clause-complete : goal.returns-clause-complete
returns-clause-complete g c = λ quiet. complete _ _ _ _ quiet (leaves _ _ _ _ _ _ _ _ c.planned-planned.ensures.only c.planned-planned.ensures.planned c.finish.ensures.finishes c.finish.ensures.later)

pub returns-clause-names : goal.returns-clause-names
returns-clause-names g c = names_stay _ _ _ _ (leaves _ _ _ _ _ _ _ _ c.planned-planned.ensures.only c.planned-planned.ensures.planned c.finish.ensures.finishes c.finish.ensures.later)

pub returns-clause-later : goal.returns-clause-later
returns-clause-later g c = later_by _ _ _ _ _ c.planned-planned.ensures.only c.finish.ensures.later

pub returns-clause-causes : goal.returns-clause-causes
returns-clause-causes g c = is_caused _ _ _ _ (leaves _ _ _ _ _ _ _ _ c.planned-planned.ensures.only c.planned-planned.ensures.planned c.finish.ensures.finishes c.finish.ensures.later)
