use Rattle.std.proofs.Common.{sym}
use Rattle.std.proofs.Math.ListN.{replicate}
use Rattle.std.proofs.lemmas.List.{get_or-replicate}
use Rattle.std.specs.BTreeMap.{get, is_at}
use Rattle.logical_clock.specs.Names.{key_cmp}
use Rattle.race_watch.proofs.Rows.{stays_there, same_row}
use Rattle.race_watch.proofs.known.learn_key.Goals as goal

pub returns-clause-stays : goal.returns-clause-stays
returns-clause-stays c = λ q h. stays_there (is_at (key_cmp c.args.key) q) _ (get key_cmp c.args.keys.now q) (get key_cmp c.insert.new.self q) (c.in_ok-insert.ensures.updates.0 q) h

pub returns-clause-same : goal.returns-clause-same
returns-clause-same c = λ q u lt. same_row c.args.key q (replicate 32 0) (get key_cmp c.args.keys.now) (get key_cmp c.insert.new.self q) u (sym c.in_default.ensures.value) (get_or-replicate 32 u 0 0 lt) (c.in_ok-insert.ensures.updates.0 q)
