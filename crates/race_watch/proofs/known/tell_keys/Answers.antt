use Rattle.std.proofs.Common.{◌≡◌, cond, Some, subst}
use Rattle.std.specs.BTreeMap.{get, is_at}
use Rattle.logical_clock.specs.Names.{key_cmp}
use Rattle.logical_clock.proofs.Places.{some_key}
use Rattle.race_watch.proofs.Rows.{told_more}
use Rattle.race_watch.proofs.known.tell_keys.Goals as goal

pub loop-key-preserved : goal.loop-key-preserved
loop-key-preserved c = λ q.
    told_more c.args.of.now c.loop-key.key-index some_key q c.args.row.now (get key_cmp c.args.keys.now) (get key_cmp c.loop-key.keys) (get key_cmp c.tell_key.new.keys q) c.loop-key-test.true c.loop-key.invariant
    (subst (λ n. get key_cmp c.tell_key.new.keys q ≡ cond (is_at (key_cmp n) q) (Some c.args.row.now) (get key_cmp c.loop-key.keys q)) c.name_of.ensures (c.tell_key.ensures q))
