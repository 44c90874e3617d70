use Rattle.std.proofs.Common.{◌<◌, ◌≤◌, length, ap, ◌∙◌, arith}
use Rattle.run_events.specs.declared.key.Key.{Key}
use Rattle.stub_calls.specs.Calls.{with_keys}
use Rattle.stub_calls.proofs.Sorted.{all_put, more_put, none_put, themselves}
use Rattle.stub_calls.proofs.keys.put_keys.Goals as goal

pub loop-done-init : goal.loop-done-init
loop-done-init c = none_put (λ (k : Key). k) c.args.more.now c.args.keys.now.items

pub loop-done-preserved : goal.loop-done-preserved
loop-done-preserved c =
    let lt : c.loop-done.done < length c.args.more.now = omega arith in
    more_put (λ (k : Key). k) c.args.more.now c.loop-done.done _ c.args.keys.now.items c.loop-done.keys.items c.put_key.new.keys.items lt c.loop-done.invariant c.in_ok-put_key.ensures

pub returns : goal.returns
returns c =
    let le : length c.args.more.now ≤ c.loop-done.done = omega arith in
    all_put (λ (k : Key). k) c.args.more.now c.loop-done.done c.args.keys.now.items c.loop-done.keys.items le c.loop-done.invariant
    ∙ ap (λ ks. with_keys ks c.args.keys.now.items) (themselves c.args.more.now)
