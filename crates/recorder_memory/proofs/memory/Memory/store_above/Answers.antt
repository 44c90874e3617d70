use Rattle.std.proofs.Common.{arith}
use Rattle.recorder_memory.proofs.AccessesAbove.{store_made}
use Rattle.recorder_memory.proofs.Results.{both_ok, any_err}
use Rattle.recorder_memory.proofs.memory.Memory.store_above.Goals as goal

pub returns-clause-stored : goal.returns-clause-stored
returns-clause-stored c = both_ok c.store.result _ _ _
    (λ u makes stored origin. store_made c.args.self.now _ c.args.thread c.args.addr c.args.width c.args.value origin (omega arith)
    (makes origin) stored) c.store.ensures.stored c.store.ensures.spaces

pub returns-clause-refused : goal.returns-clause-refused
returns-clause-refused c = any_err c.store.result _ _ (λ refusal refuses origin w past to. refuses origin _ _ _ to.stands.above to.modes) c.store.ensures.refused
