use Rattle.std.proofs.Common.{◌<◌, ◌≤◌, length, ap, ◌∙◌, arith}
use Rattle.run_events.specs.declared.key.Class.TheVariants.{Callback}
use Rattle.replay_runs.specs.Keys.{key, with_key}
use Rattle.stub_calls.proofs.Sorted.{all_put, more_put, none_put}
use Rattle.stub_calls.proofs.keys.put_callbacks.Goals as goal

pub loop-done-init : goal.loop-done-init
loop-done-init c = none_put (key Callback) c.args.funcs.now c.args.keys.now.items

pub loop-done-preserved : goal.loop-done-preserved
loop-done-preserved c =
    let lt : c.loop-done.done < length c.args.funcs.now = omega arith in
    more_put (key Callback) c.args.funcs.now c.loop-done.done 0 c.args.keys.now.items c.loop-done.keys.items c.put_key.new.keys.items lt c.loop-done.invariant (c.in_ok-put_key.ensures ∙ ap (λ v. with_key (key Callback v) c.loop-done.keys.items) c.from-value.ensures)

pub returns : goal.returns
returns c =
    let le : length c.args.funcs.now ≤ c.loop-done.done = omega arith in
    all_put (key Callback) c.args.funcs.now c.loop-done.done c.args.keys.now.items c.loop-done.keys.items le c.loop-done.invariant
