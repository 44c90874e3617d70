use Rattle.std.proofs.Common.{ap, ◌∙◌}
use Rattle.std.proofs.lemmas.Result.{IfOk-weaker}
use Rattle.stub_operations.proofs.Growing.{two, finished}
use Rattle.stub_operations.specs.Operations.{operations_below}
use Rattle.call_operations.proofs.calls.operations_below.Goals as goal

pub returns : goal.returns
returns c =
    IfOk-weaker c.finish.result _ _ (λ v e.
    finished v.items c.new-list.ensures
    (two (two c.put_kind.ensures c.put_kind-2.ensures) c.put_commit.ensures) e ∙
    ap operations_below c.of-said.ensures.said) c.finish.ensures
