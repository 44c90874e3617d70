use Rattle.std.proofs.Common.{◌≡◌, max, get_or, slice_index, IsSome, ◌∙◌, subst}
use Rattle.std.specs.BTreeMap.{get}
use Rattle.run_events.specs.declared.key.Key.{Key}
use Rattle.logical_clock.specs.Names.{name, key_cmp}
use Rattle.logical_clock.proofs.Places.{some_key, greatest_next}
use Rattle.race_watch.specs.Rows.{row_in}
use Rattle.race_watch.proofs.Rows.{each_more}
use Rattle.race_watch.proofs.known.learn_keys.Goals as goal

pub loop-key-preserved : goal.loop-key-preserved
loop-key-preserved c =
    let ks = c.args.of.now in
    let i = c.loop-key.key-index in
    let k = get_or ks i some_key in
    let old = c.loop-key.keys in
    let new = c.learn_key.new.keys in
    record {
      learned = λ u lt. greatest_next (λ (j : Key). slice_index (row_in c.args.keys.now (name j)) u) ks i some_key (slice_index c.loop-key.row u) (slice_index (row_in old (name k)) u) (slice_index c.learn_key.new.row u) _ c.loop-key-test.true
          (c.loop-key.invariant.same (name k) u lt)
          (subst (λ q. slice_index c.learn_key.new.row u ≡ max (slice_index c.loop-key.row u) (slice_index (row_in old q) u)) c.name_of.ensures (c.in_ok-learn_key.ensures.learned u lt))
          (c.loop-key.invariant.learned u lt);
      there = each_more (λ (j : Key). IsSome (get key_cmp old (name j))) (λ (j : Key). IsSome (get key_cmp new (name j))) ks i some_key c.loop-key-test.true (λ j. c.learn_key.ensures.stays (name j)) c.loop-key.invariant.there
          (subst (λ q. IsSome (get key_cmp new q)) c.name_of.ensures c.in_ok-learn_key.ensures.there);
      same = λ q u lt. c.learn_key.ensures.same q u lt ∙ c.loop-key.invariant.same q u lt;
    }
