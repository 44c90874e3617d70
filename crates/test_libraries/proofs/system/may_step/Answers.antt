use Rattle.test_libraries.proofs.Systems.{may_run}
use Rattle.test_libraries.proofs.system.may_step.Goals as goal

pub returns-in-Some : goal.returns-in-Some
returns-in-Some c = λ e. may_run c.args.system.now.threads c.in-Some.picked c.args.thread c.in-Some.ensures.first e
