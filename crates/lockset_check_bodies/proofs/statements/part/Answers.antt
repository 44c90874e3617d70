use Rattle.std.proofs.Common.{Some, ap, ◌∙◌}
use Rattle.std.proofs.lemmas.Result.{on_ok_weaker}
use Rattle.c_types_program.specs.Statements.{maybe_at}
use Rattle.lockset_check_values.specs.Setting.{guarded}
use Rattle.lockset_check_values.specs.Walks.{maybe_walked}
use Rattle.lockset_check_bodies.specs.Places.{loop_checked}
use Rattle.lockset_check_bodies.proofs.Passing.{part_made}
use Rattle.lockset_check_bodies.proofs.statements.part.Goals as goal

pub returns : goal.returns
returns c =
    let r = guarded c.args.walker.now in
    let m = maybe_at c.args.walker.now.program.table c.args.value in
    on_ok_weaker c.check_loop.result
    (λ e. part_made c.args.from r m c.args.walk.now c.check_loop.new.walk (e ∙ ap (loop_checked (Some c.args.from)) (c.in_ok-maybe.ensures ∙ ap (maybe_walked r m) c.in_ok-restart.ensures)))
    c.check_loop.ensures
