use Rattle.recorder_memory.proofs.Events.{alloc_made}
use Rattle.recorder_memory.proofs.Results.{any_ok, both_ok}
use Rattle.recorder_memory.proofs.memory.Memory.alloc_above.Goals as goal

pub returns-clause-place : goal.returns-clause-place
returns-clause-place c = any_ok c.alloc.result _ _ (λ addr place w past h. place _ _ _ h.above) c.alloc.ensures.place

pub returns-clause-made : goal.returns-clause-made
returns-clause-made c = both_ok c.alloc.result _ _ _ (λ addr makes given. alloc_made c.args.self.now _ c.args.thread c.args.size addr makes given) c.alloc.ensures.made c.alloc.ensures.spaces
