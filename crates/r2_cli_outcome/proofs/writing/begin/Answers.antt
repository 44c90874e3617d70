use Rattle.std.proofs.Common.{ap}
use Rattle.r2_cli_outcome.specs.Outcome.{out, err}
use Rattle.r2_cli_outcome.specs.Plans.{target_of}
use Rattle.r2_cli_outcome.proofs.SendingLemmas.{begins_there, nothing_begun, out_begun, err_begun, later_writes, later_same}
use Rattle.r2_cli_outcome.proofs.writing.begin.Goals as goal

pub returns-in-File-clause-later : goal.returns-in-File-clause-later
returns-in-File-clause-later g c = λ o e. later_writes _ _ _ o e c.fresh.ensures.only

pub returns-in-File-clause-begins : goal.returns-in-File-clause-begins
returns-in-File-clause-begins g c = λ o e.
    begins_there _ _ _ _ _ o e _ (ap target_of c.in-File.is) c.deref.ensures c.fresh.ensures.only c.fresh.ensures.empty c.fresh.ensures.kept c.fresh.ensures.cause

pub returns-in-Output-clause-later : goal.returns-in-Output-clause-later
returns-in-Output-clause-later g c = λ o e. later_same _

pub returns-in-Output-clause-begins : goal.returns-in-Output-clause-begins
returns-in-Output-clause-begins g c = λ o e. nothing_begun out _ (out_begun _) _ (ap target_of c.in-Output.is)

pub returns-in-Errors-clause-later : goal.returns-in-Errors-clause-later
returns-in-Errors-clause-later g c = λ o e. later_same _

pub returns-in-Errors-clause-begins : goal.returns-in-Errors-clause-begins
returns-in-Errors-clause-begins g c = λ o e. nothing_begun err _ (err_begun _) _ (ap target_of c.in-Errors.is)
