use Rattle.std.proofs.Common.{subst}
use Rattle.lockset_check_rules.specs.Order.{AreSorted}
use Rattle.lockset_check_rules.specs.Sources.{source_found}
use Rattle.lockset_check_values.specs.Sayings.{Sayings}
use Rattle.lockset_check_values.specs.Setting.{guarded, setting}
use Rattle.lockset_check_bodies.specs.Runs.{runs_by}
use Rattle.lockset_check.specs.Answers.{guarded_by}
use Rattle.lockset_check.proofs.Answered.{answered}
use Rattle.lockset_check.proofs.check.guard.Goals as goal

pub returns : goal.returns
returns c =
    let p = c.args.program.now in
    let runs = runs_by c.args.may_run.now in
    answered (source_found (guarded_by p c.args.iface.now) runs) c.in_ok-found.found.items c.refuse.result
    (subst (λ (g : Sayings). AreSorted (source_found (guarded (setting p g)) runs) c.in_ok-found.found.items) c.in_ok-guards.ensures c.in_ok-found.ensures)
    c.refuse.ensures
