use Rattle.steps_above_memory.proofs.Called.{told_call}
use Rattle.steps_above_memory.proofs.calls.called.Goals as goal

pub returns-clause-told : goal.returns-clause-told
returns-clause-told c =
    told_call c.args.thread c.args.regions.now c.args.keys.now c.args.watch.now c.accessed_all.new.watch c.accessed_all-2.new.watch c.accessed_all-3.new.watch c.event.new.self
    c.in_ok-accessed_all.ensures.told c.in_ok-accessed_all-2.ensures.told c.in_ok-accessed_all-3.ensures.told c.in_ok-event.ensures.told
