use Rattle.std.proofs.Common.{ap, ◌∙◌}
use Rattle.std.proofs.lemmas.Result.{IfOk-weaker}
use Rattle.stub_operations.proofs.Growing.{two, finished}
use Rattle.stub_operations.specs.Operations.{operations}
use Rattle.call_operations.proofs.calls.operations.Goals as goal

pub returns : goal.returns
returns c =
    IfOk-weaker c.finish.result _ _ (λ v e.
    finished v.items c.new-list.ensures
    (two (two (two (two (two (two (two c.put_kind.ensures c.put_kind-2.ensures) c.put_kind-3.ensures)
    c.put_kind-4.ensures) c.put_commit.ensures) c.put_kind-5.ensures) c.put_kind-6.ensures) c.put_if.ensures) e ∙
    ap operations c.of-said.ensures.said) c.finish.ensures
