use Rattle.lockset_check_rules.specs.Statements.{loop_differs_in}
use Rattle.lockset_check_bodies.specs.Places.{within}
use Rattle.lockset_check_bodies.proofs.Passing.{stopped}
use Rattle.lockset_check_bodies.proofs.statements.leave.Goals as goal

pub returns : goal.returns
returns c =
    let w = c.args.walk.now in
    stopped (loop_differs_in (within w.sets c.args.within) w.sets.held) w c.check_loop.new.walk c.in_ok-check_loop.ensures
