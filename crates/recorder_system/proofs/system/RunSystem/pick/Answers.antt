use Rattle.std.proofs.Common.{◌≡◌, true, IfSome, subst}
use Rattle.system_side.specs.Threads.{has_not_ended, is_ready}
use Rattle.system_side.specs.System.{SystemState}
use Rattle.recorder_system.specs.Calls.{GivesTry}
use Rattle.recorder_system.proofs.Tries.{is_try, picked_few, picked_ready, picked_running}
use Rattle.recorder_system.proofs.system.RunSystem.pick.Goals as goal

pub returns-clause-tried : goal.returns-clause-tried
returns-clause-tried c =
    subst (λ (s : SystemState). GivesTry s c.args.wish c.pick.result) c.self.view_is (is_try c.self.inside.system c.args.wish c.pick.result c.pick.ensures.first c.pick.ensures.none)

pub returns-clause-ready : goal.returns-clause-ready
returns-clause-ready c =
    subst (λ (s : SystemState). IfSome c.pick.result (λ t. is_ready s.threads t ≡ true)) c.self.view_is (picked_ready c.self.inside.system c.args.wish c.pick.result c.pick.ensures.first)

pub returns-clause-running : goal.returns-clause-running
returns-clause-running c =
    subst (λ (s : SystemState). IfSome c.pick.result (λ t. has_not_ended s.threads t ≡ true)) c.self.view_is (picked_running c.self.inside.system c.args.wish c.pick.result c.pick.ensures.first)

pub returns-clause-few : goal.returns-clause-few
returns-clause-few c = picked_few c.self.inside.system c.args.wish c.pick.result c.self.invariant.few c.pick.ensures.first
