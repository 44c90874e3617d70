use Rattle.recorder_memory.proofs.AccessesAbove.{load_made}
use Rattle.recorder_memory.proofs.Results.{both_ok, any_err}
use Rattle.recorder_memory.proofs.memory.Memory.load_above.Goals as goal

pub returns-clause-loaded : goal.returns-clause-loaded
returns-clause-loaded c = both_ok c.load.result _ _ _
    (λ value makes has origin. load_made c.args.self.now _ c.args.thread c.args.addr c.args.width value origin
    (makes origin) has c.load.ensures.spaces) c.load.ensures.loaded c.load.ensures.number

pub returns-clause-refused : goal.returns-clause-refused
returns-clause-refused c = any_err c.load.result _ _ (λ refusal refuses origin w past to. refuses origin _ _ _ to.stands.above to.modes) c.load.ensures.refused
