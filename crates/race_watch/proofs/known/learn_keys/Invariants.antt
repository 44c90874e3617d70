use Rattle.std.proofs.Common.{◌≡◌, ℕ, ◌<◌, max, take, drop, slice_index, IsSome}
use Rattle.std.specs.BTreeMap.{get}
use Rattle.run_events.specs.declared.key.Key.{Key}
use Rattle.logical_clock.specs.declared.name.KeyName.{KeyName}
use Rattle.logical_clock.specs.Names.{name, key_cmp, greatest_of}
use Rattle.race_watch.specs.Rows.{row_in, Each}
use Rattle.race_watch.proofs.known.learn_keys.Given as goal

abbrev pub invariant-loop-key : goal.invariant-loop-key
invariant-loop-key l = record {
  learned : (u : ℕ) → u < 32 → max (slice_index l.row u) (greatest_of (λ (k : Key). slice_index (row_in l.fn.keys (name k)) u) (drop l.key-index l.of)) ≡ max (slice_index l.fn.row u) (greatest_of (λ (k : Key). slice_index (row_in l.fn.keys (name k)) u) l.of);
  there : Each (λ (k : Key). IsSome (get key_cmp l.keys (name k))) (take l.key-index l.of);
  same : (q : KeyName) (u : ℕ) → u < 32 → slice_index (row_in l.keys q) u ≡ slice_index (row_in l.fn.keys q) u;
}
