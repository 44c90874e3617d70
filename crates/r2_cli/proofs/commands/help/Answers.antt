use Rattle.std.proofs.Common.{ap}
use Rattle.r2_cli_outcome.specs.Outcome.{Outcome}
use Rattle.r2_cli_outcome.specs.Stages.{passed}
use Rattle.r2_cli_outcome.specs.Plans.{gives}
use Rattle.r2_cli_outcome.proofs.StageLemmas.{out_of_memory}
use Rattle.r2_cli.proofs.commands.help.Goals as goal

pub returns-in_err-printed : goal.returns-in_err-printed
returns-in_err-printed c = out_of_memory _ _ _ _ _ c.from_residual.ensures.1

pub returns : goal.returns
returns c = gives (ap (λ (o : Outcome). passed o) c.in_ok-printed.ensures)
