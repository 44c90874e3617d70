use Rattle.std.proofs.Common.{false}
use Rattle.c_types_nodes.specs.Tables.{value_at}
use Rattle.lockset_check_rules.specs.After.{value_after}
use Rattle.lockset_check_rules.specs.Values.{value_found}
use Rattle.lockset_check_values.specs.Setting.{guarded}
use Rattle.lockset_check_bodies.proofs.Passing.{went}
use Rattle.lockset_check_bodies.proofs.statements.evaluate.Goals as goal

pub returns : goal.returns
returns c =
    let v = value_at c.args.walker.now.program.table c.args.value in
    let w = c.args.walk.now in
    went (value_after v w.sets.held) (value_found (guarded c.args.walker.now) false v w.sets.held) w c.value.new.walk c.in_ok-value.ensures
