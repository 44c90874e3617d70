use Rattle.std.proofs.Common.{◌≡◌, ap, ◌∙◌}
use Rattle.replay_runs.specs.Keys.{commit_keys, sorted_keys}
use Rattle.stub_meaning.specs.Meaning.{first_of}
use Rattle.stub_calls.specs.Calls.{with_keys}
use Rattle.stub_calls.proofs.Sorted.{in_order, in_order_both, ok_so}
use Rattle.stub_calls.proofs.done.Done.return_keys.Goals as goal

pub returns : goal.returns
returns c =
    let n = c.args.self.now in
    let first : c.put_commit.new.keys.items ≡ sorted_keys (commit_keys (first_of n.commits)) =
    c.in_ok-put_commit.ensures ∙ (ap (with_keys (commit_keys c.commit.result)) c.clear.ensures.items ∙ (in_order (commit_keys c.commit.result) ∙ ap (λ o. sorted_keys (commit_keys o)) c.commit.ensures)) in
    let said : c.keys_at_return.result.now ≡ n.keys_at_return = c.keys_at_return.ensures in
    ok_so c.put_keys.result (λ e. e ∙ (ap (λ ks. with_keys ks c.put_commit.new.keys.items) said ∙ (ap (with_keys n.keys_at_return) first ∙ in_order_both n.keys_at_return (commit_keys (first_of n.commits))))) c.put_keys.ensures
