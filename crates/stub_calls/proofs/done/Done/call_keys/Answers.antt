use Rattle.std.proofs.Common.{◌≡◌, ◌++◌, map, ap, ◌∙◌}
use Rattle.run_events.specs.declared.key.Class.TheVariants.{Async, Callback}
use Rattle.marks.specs.Ranges.{Prepared}
use Rattle.replay_runs.specs.Keys.{key, sorted_keys}
use Rattle.stub_calls.specs.Calls.{with_keys}
use Rattle.stub_calls.proofs.Sorted.{in_order, in_order_both, ok_so}
use Rattle.stub_calls.proofs.done.Done.call_keys.Goals as goal

pub returns : goal.returns
returns c =
    let n = c.args.self.now in
    let regions = map (λ (p : Prepared). key Async p.key) n.prepares in
    let callbacks = map (key Callback) n.registers in
    let first : c.put_prepared.new.keys.items ≡ sorted_keys regions =
    c.in_ok-put_prepared.ensures ∙ (ap (with_keys (map (λ (p : Prepared). key Async p.key) c.prepares.result.now)) c.clear.ensures.items
    ∙ (in_order (map (λ (p : Prepared). key Async p.key) c.prepares.result.now) ∙ ap (λ ps. sorted_keys (map (λ (p : Prepared). key Async p.key) ps)) c.prepares.ensures)) in
    let second : c.put_callbacks.new.keys.items ≡ sorted_keys (callbacks ++ regions) =
    c.in_ok-put_callbacks.ensures ∙ (ap (λ fs. with_keys (map (key Callback) fs) c.put_prepared.new.keys.items) c.registers.ensures
    ∙ (ap (with_keys callbacks) first ∙ in_order_both callbacks regions)) in
    let said : c.keys_at_call.result.now ≡ n.keys_at_call = c.keys_at_call.ensures in
    ok_so c.put_keys.result (λ e. e ∙ (ap (λ ks. with_keys ks c.put_callbacks.new.keys.items) said ∙ (ap (with_keys n.keys_at_call) second ∙ in_order_both n.keys_at_call (callbacks ++ regions)))) c.put_keys.ensures
