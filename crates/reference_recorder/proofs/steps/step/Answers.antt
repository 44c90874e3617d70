use Rattle.std.proofs.Common.{subst}
use Rattle.std.specs.Prelude.{IfOk}
use Rattle.recorder_state.specs.Inputs.{world_of}
use Rattle.reference_recorder.specs.Steps.{ComesNext, IsTurn}
use Rattle.reference_recorder.proofs.Going.{ends}
use Rattle.reference_recorder.proofs.steps.step.Goals as goal

pub try_step-requires-clause-started : goal.try_step-requires-clause-started
try_step-requires-clause-started c = (subst (IsTurn (world_of c.args.inputs) c.args.marks.now c.requires c.in_ok-threads.threads) c.in-Step.is (c.turn.ensures c.requires)).0

pub try_step-requires-clause-at : goal.try_step-requires-clause-at
try_step-requires-clause-at c = (subst (IsTurn (world_of c.args.inputs) c.args.marks.now c.requires c.in_ok-threads.threads) c.in-Step.is (c.turn.ensures c.requires)).1.0

pub returns-in-Ended : goal.returns-in-Ended
returns-in-Ended c = λ p.
    let w = world_of c.args.inputs in
    ends w p.run c.in-Ended.ending (subst (IsTurn w c.args.marks.now p c.in_ok-threads.threads) c.in-Ended.is (c.turn.ensures p))

pub returns : goal.returns
returns c = λ p.
    let w = world_of c.args.inputs in
    let s = subst (IsTurn w c.args.marks.now p c.in_ok-threads.threads) c.in-Step.is (c.turn.ensures p) in
    subst (λ q. IfOk c.try_step.result (ComesNext w c.args.marks.now q)) s.1.1 (c.try_step.ensures s.1.0)
