use Rattle.std.proofs.Common.{◌≡◌, take, cond, Some}
use Rattle.std.specs.BTreeMap.{get}
use Rattle.logical_clock.specs.declared.name.KeyName.{KeyName}
use Rattle.logical_clock.specs.Names.{key_cmp, is_named}
use Rattle.race_watch.proofs.known.tell_keys.Given as goal

abbrev pub invariant-loop-key : goal.invariant-loop-key
invariant-loop-key l = (q : KeyName) → get key_cmp l.keys q ≡ cond (is_named (take l.key-index l.of) q) (Some l.row) (get key_cmp l.fn.keys q)
