use Rattle.recorder_memory.proofs.Calling.{call_made, left}
use Rattle.recorder_memory.proofs.Results.{any_err, any_ok, both_ok}
use Rattle.recorder_memory.proofs.memory.Memory.call_above.Goals as goal

pub returns-clause-passes : goal.returns-clause-passes
returns-clause-passes c = any_ok c.call.result _ _ (λ u takes w past indirect func args to wanted. takes _ _ _ indirect func args to.stands.above wanted) c.call.ensures.passes

pub returns-clause-made : goal.returns-clause-made
returns-clause-made c = both_ok c.call.result _ _ _ (λ u makes parts. call_made c.args.self.now _ c.args.thread c.args.regions.now c.args.keys.now makes parts) c.call.ensures.made c.call.ensures.spaces

pub returns-clause-refused : goal.returns-clause-refused
returns-clause-refused c = any_err c.call.result _ _ (λ refusal refuses w past indirect func args to wanted. refuses _ _ _ indirect func args to.stands.above wanted) c.call.ensures.refused

pub returns-clause-unchanged : goal.returns-clause-unchanged
returns-clause-unchanged c = any_err c.call.result _ _ (λ refusal leaves cause. left c.args.self.now _ (leaves cause)) c.call.ensures.unchanged
