use Rattle.std.proofs.Common.{Some, ◌∙◌}
use Rattle.run_events.specs.declared.key.Class.TheVariants.{User, Async}
use Rattle.stub_operations.specs.declared.operation.StubOp.TheVariants.{KeyAtCall}
use Rattle.stub_operations.specs.Operations.{ParameterSays, is_among, is_key, is_prepared}
use Rattle.call_operations.specs.Said.{says}
use Rattle.call_operations.proofs.Parameters.{any_said, both}
use Rattle.call_operations.proofs.keys.put_keys_at_call.Goals as goal

pub returns : goal.returns
returns c =
    let said = c.args.said.now in
    let p = c.args.place in
    both (is_among p (says said).sync) (is_prepared p (says said).params) (KeyAtCall User (Some p))
    (KeyAtCall Async (Some p)) c.is_among.ensures
    (c.is_prepared.ensures ∙ any_said (λ (x : ParameterSays). is_key p x.prepares) said.params.now)
    c.put_if.ensures c.put_if-2.ensures
