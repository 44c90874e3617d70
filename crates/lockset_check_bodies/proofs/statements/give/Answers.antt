use Rattle.std.proofs.Common.{None, ap, ◌∙◌}
use Rattle.c_types_program.specs.Statements.{maybe_at}
use Rattle.lockset_check_rules.specs.After.{maybe_after}
use Rattle.lockset_check_rules.specs.Values.{maybe_found}
use Rattle.lockset_check_rules.specs.Statements.{return_differs}
use Rattle.lockset_check_values.specs.Setting.{guarded}
use Rattle.lockset_check_bodies.specs.Places.{start_checked, within}
use Rattle.lockset_check_bodies.proofs.Passing.{gave}
use Rattle.lockset_check_bodies.proofs.statements.give.Goals as goal

pub returns : goal.returns
returns c =
    let r = guarded c.args.walker.now in
    let m = maybe_at c.args.walker.now.program.table c.args.value in
    let w = c.args.walk.now in
    let s = maybe_after m w.sets.held in
    gave s (maybe_found r m w.sets.held) (return_differs (within w.sets None) c.args.from s) w c.check_start.new.walk
    (c.in_ok-check_start.ensures ∙ ap (start_checked c.args.from) c.in_ok-maybe.ensures)
