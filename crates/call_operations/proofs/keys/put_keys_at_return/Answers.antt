use Rattle.std.proofs.Common.{Some}
use Rattle.run_events.specs.declared.key.Class.TheVariants.{User, Async}
use Rattle.stub_operations.specs.declared.operation.StubOp.TheVariants.{KeyAtRet}
use Rattle.stub_operations.specs.Operations.{is_among, is_key}
use Rattle.call_operations.specs.Said.{says}
use Rattle.call_operations.proofs.Parameters.{both}
use Rattle.call_operations.proofs.keys.put_keys_at_return.Goals as goal

pub returns : goal.returns
returns c =
    let said = c.args.said.now in
    let p = c.args.place in
    both (is_among p (says said).sync) (is_key p (says said).commit) (KeyAtRet User (Some p))
    (KeyAtRet Async (Some p)) c.is_among.ensures c.is_key.ensures c.put_if.ensures c.put_if-2.ensures
