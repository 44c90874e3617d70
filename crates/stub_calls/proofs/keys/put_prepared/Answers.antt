use Rattle.std.proofs.Common.{◌<◌, ◌≤◌, length, ap, ◌∙◌, arith}
use Rattle.run_events.specs.declared.key.Class.TheVariants.{Async}
use Rattle.marks.specs.Ranges.{Prepared}
use Rattle.replay_runs.specs.Keys.{key, with_key}
use Rattle.stub_calls.proofs.Sorted.{all_put, more_put, none_put}
use Rattle.stub_calls.proofs.keys.put_prepared.Goals as goal

pub loop-done-init : goal.loop-done-init
loop-done-init c = none_put (λ (p : Prepared). key Async p.key) c.args.prepares.now c.args.keys.now.items

pub loop-done-preserved : goal.loop-done-preserved
loop-done-preserved c =
    let lt : c.loop-done.done < length c.args.prepares.now = omega arith in
    more_put (λ (p : Prepared). key Async p.key) c.args.prepares.now c.loop-done.done c.index-prepares-prepares.result c.args.keys.now.items c.loop-done.keys.items c.put_key.new.keys.items lt c.loop-done.invariant (c.in_ok-put_key.ensures ∙ ap (λ (p : Prepared). with_key (key Async p.key) c.loop-done.keys.items) (c.prepared.view_is ∙ c.index-prepares-prepares.is))

pub returns : goal.returns
returns c =
    let le : length c.args.prepares.now ≤ c.loop-done.done = omega arith in
    all_put (λ (p : Prepared). key Async p.key) c.args.prepares.now c.loop-done.done c.args.keys.now.items c.loop-done.keys.items le c.loop-done.invariant
