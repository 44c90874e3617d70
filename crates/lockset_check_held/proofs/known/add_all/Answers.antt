use Rattle.std.proofs.Common.{◌≡◌, arith}
use Rattle.lockset_check_rules.specs.Mutexes.{with_locks}
use Rattle.lockset_check_held.specs.Rows.{set_of}
use Rattle.std.proofs.Common.{◌+◌, drop}
use Rattle.std.proofs.lemmas.Grind.{common_steps}
use Rattle.lockset_check_held.proofs.Starts.{put_next}
use Rattle.lockset_check_held.proofs.Tables.{learns_more}
use Rattle.lockset_check_held.proofs.known.add_all.Goals as goal

pub returns-in_err-add-clause-learns : goal.returns-in_err-add-clause-learns
returns-in_err-add-clause-learns c = learns_more c.args.known.now.keys c.loop-i.known.keys c.add.new.known.keys c.loop-i.invariant.3 c.add.ensures.learns

pub loop-i-preserved : goal.loop-i-preserved
loop-i-preserved c =
    let e = c.in_ok-add.ensures in
    let put : with_locks (drop (c.loop-i.i + 1) c.args.mutexes.now) (set_of c.add.new.known.keys c.add.new.row) ≡ with_locks c.args.mutexes.now (set_of c.args.known.now.keys c.args.row.now) = grind (arith, put_next, common_steps) in (
      put,
      e.known,
      e.row,
      learns_more c.args.known.now.keys c.loop-i.known.keys c.add.new.known.keys c.loop-i.invariant.3 e.learns,
    )
