use Rattle.recorder_memory.proofs.Blocks.{block_there}
use Rattle.recorder_memory.proofs.Events.{free_made}
use Rattle.recorder_memory.proofs.Results.{any_err, any_ok, both_ok}
use Rattle.recorder_memory.proofs.memory.Memory.free_above.Goals as goal

pub returns-clause-passes : goal.returns-clause-passes
returns-clause-passes c = any_ok c.free.result _ _ (λ size takes w past to. takes _ _ _ to.stands.above to.modes) c.free.ensures.passes

pub returns-clause-block : goal.returns-clause-block
returns-clause-block c = both_ok c.free.result _ _ _ (λ size takes freed. block_there c.args.self.now _ c.args.thread c.args.addr size freed (λ w past to. takes _ _ _ to.stands.above to.modes)) c.free.ensures.passes c.free.ensures.spaces

pub returns-clause-made : goal.returns-clause-made
returns-clause-made c = both_ok c.free.result _ _ _ (λ size makes freed. free_made c.args.self.now _ c.args.thread c.args.addr size makes freed) c.free.ensures.made c.free.ensures.spaces

pub returns-clause-refused : goal.returns-clause-refused
returns-clause-refused c = any_err c.free.result _ _ (λ refusal refuses w past to. refuses _ _ _ to.stands.above to.modes) c.free.ensures.refused
