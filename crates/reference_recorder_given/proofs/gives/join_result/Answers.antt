use Rattle.recorder_state.specs.Inputs.{world_of}
use Rattle.reference_recorder_given.proofs.Giving.{joins, joins_none}
use Rattle.reference_recorder_given.proofs.gives.join_result.Goals as goal

pub result_or_zero-requires-clause-started : goal.result_or_zero-requires-clause-started
result_or_zero-requires-clause-started c = c.in-Some.ensures.started

pub returns-in-Some : goal.returns-in-Some
returns-in-Some c = λ p.
    joins (world_of c.args.inputs) p.run c.args.thread c.args.number c.in-Some.ended c.result_or_zero.result (c.in-Some.ensures.other p) (c.result_or_zero.ensures p)

pub returns-in-None : goal.returns-in-None
returns-in-None c = λ p. joins_none (world_of c.args.inputs) p.run c.args.thread c.args.number (c.in-None.ensures.other p)
