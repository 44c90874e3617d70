use Rattle.std.proofs.Common.{ℕ, List, subst}
use Rattle.marks.specs.Wants.{Go}
use Rattle.recorder_state.specs.Inputs.{world_of}
use Rattle.recorder_returns.specs.Saying.{IsSaid}
use Rattle.recorder_returns.proofs.Bodies.{few, is_started, passes_so, refused, sizes}
use Rattle.recorder_returns.proofs.returns.return_from.Goals as goal

pub args-requires : goal.args-requires
args-requires c = is_started _ c.args.state.now c.args.thread c.args.func c.args.value c.requires

pub read-requires : goal.read-requires
read-requires c = c.requires.reached.fit

pub test_return-requires-clause-in_range : goal.test_return-requires-clause-in_range
test_return-requires-clause-in_range c = few _ c.args.state.now c.args.thread c.args.func c.args.value c.requires

pub test_return-requires-clause-sizes : goal.test_return-requires-clause-sizes
test_return-requires-clause-sizes c =
    let said = subst (λ (xs : List ℕ). IsSaid (world_of c.args.inputs) c.args.func xs c.args.value c.read.new.self) c.args-2.ensures c.in_default.ensures in
    sizes _ c.args.state.now c.args.thread c.args.func c.args.value c.requires c.read.new.self said c.used-used.result.now c.commit.result c.used-used.ensures c.commit.ensures

pub returns-in-Err-test_return-clause-stopped : goal.returns-in-Err-test_return-clause-stopped
returns-in-Err-test_return-clause-stopped c =
    let said = subst (λ (xs : List ℕ). IsSaid (world_of c.args.inputs) c.args.func xs c.args.value c.read.new.self) c.args-2.ensures c.in_default.ensures in
    c.of.ensures (world_of c.args.inputs) c.args.state.now
    (refused (world_of c.args.inputs) c.args.state.now c.args.thread c.args.func c.args.value c.requires c.read.new.self said
    c.used-used.result.now c.commit.result c.used-used.ensures c.commit.ensures c.in-Err-test_return.refusal c.in-Err-test_return.ensures.refused)

pub record_ret-requires-clause-next : goal.record_ret-requires-clause-next
record_ret-requires-clause-next c =
    let said = subst (λ (xs : List ℕ). IsSaid (world_of c.args.inputs) c.args.func xs c.args.value c.read.new.self) c.args-2.ensures c.in_default.ensures in (
      Go,
      passes_so (world_of c.args.inputs) c.args.state.now c.args.thread c.args.func c.args.value c.requires c.read.new.self said
          c.used-used.result.now c.commit.result c.used-used.ensures c.commit.ensures c.in_default-test_return.ensures.passes,
    )

pub give_back-requires : goal.give_back-requires
give_back-requires c =
    let said = subst (λ (xs : List ℕ). IsSaid (world_of c.args.inputs) c.args.func xs c.args.value c.read.new.self) c.args-2.ensures c.in_default.ensures in (
      c.args.value,
      c.in_default-record_ret.ensures.made Go
          (passes_so (world_of c.args.inputs) c.args.state.now c.args.thread c.args.func c.args.value c.requires c.read.new.self said
          c.used-used.result.now c.commit.result c.used-used.ensures c.commit.ensures c.in_default-test_return.ensures.passes),
    )
