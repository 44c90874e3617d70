use Rattle.recorder_memory.proofs.Events.{quiet_made}
use Rattle.recorder_memory.proofs.Results.{any_ok}
use Rattle.recorder_memory.proofs.memory.Memory.event_above.Goals as goal

pub returns : goal.returns
returns c = any_ok c.event.result _ _ (λ u makes kind quiet. quiet_made c.args.self.now _ c.args.thread c.args.keys.now kind quiet (makes kind quiet) c.event.ensures.spaces) c.event.ensures.made
