use Rattle.std.proofs.Common.{◌≡◌, ℕ, List, [], map, ap}
use Rattle.r2_cli_outcome.specs.declared.status.Status.TheVariants.{Done}
use Rattle.r2_cli_outcome.specs.Outcome.{Outcome, Write}
use Rattle.r2_cli_outcome.specs.Stages.{passed}
use Rattle.r2_cli_outcome.specs.Plans.{gives, write_of}
use Rattle.r2_cli_outcome.proofs.StageLemmas.{out_of_memory}
use Rattle.r2_cli.specs.Commands.{generated}
use Rattle.r2_cli.proofs.commands.generate.Goals as goal

outcome_by : (n : ℕ) (src sys line : List ℕ) (ws : List Write) → ws ≡ (generated n src sys).writes → line ≡ [] → ◌≡◌ {A = Outcome} (record { status = Done; writes = ws; line = line }) (generated n src sys)
outcome_by n src sys line ws is empty = λ j. record { status = Done; writes = is j; line = empty j }

pub returns-in_err-writes : goal.returns-in_err-writes
returns-in_err-writes c = out_of_memory _ _ _ _ _ c.from_residual.ensures.1

pub returns : goal.returns
returns c =
    gives (ap (λ (o : Outcome). passed o) (outcome_by c.args.rounds c.args.src.now c.args.sys.now c.new-line.result.items (map write_of c.in_ok-writes.writes.items) c.in_ok-writes.ensures c.new-line.ensures.items))
